-- What the code's types say of items that may be absent: each number fits.
-- Assumes nothing.
use Rattle.std.specs.Prelude.{Option, Some, None, ℕ, ℤ}
use mathlib.Core.List.{List}
use native.Mathlib.Omega.{arith}
use lib.IntN.{pos, negsuc}
use mir.Val.{Val}
use denote.Builtin as builtin
use denote.Laws.{Is}
use Rattle.std.specs.contracts.option.Option as option
use Rattle.wire_writer.specs.Fits.{Fits16, Fits32, FitsI64}

pub fits16 : (x : Option ℕ) (vs : List Val) → Is (option.the_row builtin.u16) x vs → Fits16 x
fits16 None vs h = tt
fits16 (Some v) vs h = omega (arith, h.1.1.1.1.0.1)

pub fits32 : (x : Option ℕ) (vs : List Val) → Is (option.the_row builtin.u32) x vs → Fits32 x
fits32 None vs h = tt
fits32 (Some v) vs h = omega (arith, h.1.1.1.1.0.1)

pub fits_i64 : (x : Option ℤ) (vs : List Val) → Is (option.the_row builtin.i64) x vs → FitsI64 x
fits_i64 None vs h = tt
fits_i64 (Some (pos n)) vs h = h.1.1.1.1.0.1
fits_i64 (Some (negsuc n)) vs h = h.1.1.1.1.0.1
