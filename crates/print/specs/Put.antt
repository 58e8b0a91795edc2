-- A text is put into a slice of bytes, from a place on. What lies past the end of the slice is not written, and the place after the text
-- then lies past the end, too.
--
-- Put xs out out' at r: xs was put into out at the place `at`, which made it out', and r is the place after it
-- show_key_value: the first half of the text of a record
use Rattle.std.specs.Prelude.{ℕ, ◌+◌, ◌≤◌, ◌<◌, List, ◌++◌, ◌≡◌, length}
use Rattle.std.proofs.lemmas.List.Edits.{sets}
use Rattle.form.specs.Text.{ascii}
use Rattle.form.specs.Show.{decimal}

pub record Put (xs out out' : List ℕ) (at r : ℕ) : Type 0 where
  pub holds : out' ≡ sets out at xs
  pub fits : at + length xs ≤ length out → r ≡ at + length xs
  pub over : length out < at + length xs → length out < r

unfoldable pub show_key_value : ℕ → ℕ → List ℕ
show_key_value k v = decimal k ++ ascii "," ++ decimal v ++ ascii ","
