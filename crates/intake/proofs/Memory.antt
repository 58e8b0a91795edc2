-- Memory of n zeros has n of them. At a large n this has to be cited: computed, it asks too much.
use Rattle.std.specs.Prelude.{ℕ, ◌≡◌, ◌≤◌, length}
use Rattle.std.proofs.Math.ListN.{replicate}
use Rattle.std.proofs.Math.Path.{sym}
use Rattle.std.proofs.Math.Nat.{le_of_eq}
use Rattle.std.proofs.lemmas.List.{length-replicate}

pub zeros_length : (n : ℕ) → n ≡ length (replicate {A = ℕ} n 0)
zeros_length n = sym (length-replicate {A = ℕ} n 0)

pub zeros_suffice : (n : ℕ) → n ≤ length (replicate {A = ℕ} n 0)
zeros_suffice n = le_of_eq (zeros_length n)
