-- What a payload area and a marks area cover below total: a byte is covered exactly if it is marked.
use Rattle.std.specs.Prelude.{ℕ, List, get_or}
use Rattle.reassembly.specs.Views.{View, only_if}
use Rattle.marks.specs.Marks.{Layout, marked_below}

unfoldable pub marked_view : Layout → ℕ → List ℕ → List ℕ → View
marked_view L total p m i = only_if (marked_below L total m i) (get_or p i 0)
