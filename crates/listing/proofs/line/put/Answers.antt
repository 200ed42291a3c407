use Rattle.listing.specs.Line.{line_text}
use Rattle.listing.proofs.line.put.Goals as goal

pub returns-in-Net : goal.returns-in-Net
unfolding line_text
returns-in-Net c =
    rw c.in-Net.is c.net.ensures

pub returns-in-Set : goal.returns-in-Set
unfolding line_text
returns-in-Set c =
    rw c.in-Set.is c.set.ensures

pub returns-in-SetInvalid : goal.returns-in-SetInvalid
unfolding line_text
returns-in-SetInvalid c =
    rw c.in-SetInvalid.is c.set_invalid.ensures

pub returns-in-SetBad : goal.returns-in-SetBad
unfolding line_text
returns-in-SetBad c =
    rw c.in-SetBad.is c.set_bad.ensures

pub returns-in-Field : goal.returns-in-Field
unfolding line_text
returns-in-Field c =
    rw c.in-Field.is c.field.ensures

pub returns-in-Bad : goal.returns-in-Bad
unfolding line_text
returns-in-Bad c =
    rw c.in-Bad.is c.bad.ensures
