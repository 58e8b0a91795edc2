-- How a walk by hand ends whose callee has been given all that was lent: of each parameter there is just what is said of its last value, which is
-- what the callee's contract says of it. So nothing is copied or kept for the exit, however many slices are lent.
--
-- stay_said, stays_said: what is had at exit, of one parameter and of all
-- fits_said, go_said: it asks nothing, and it gives what is said of the last values
use Prim.Native.Nat.{ℕ}
use mathlib.Core.List.{List, [], ◌∷◌}
use seplogic.Ra.Ura.{Ura}
use types.Logic.{Logic, sem}
use contract.Lifetimes.{Lfts}
use denote.RattleType.{Denots}
use denote.Exit.{Kept, left}
use denote.Signature.{Slot, types_at}
use denote.Triple.End.{Kepts, Fins}
use denote.Triple.Walked.{Stay, Stays, AllGo, fits_of}

module _ {n : ℕ} where
  abbrev pub stay_said : (s : Slot n) (k : Kept) → Stay s k
  stay_said s k = record { fit = λ κs x f. Unit {0}; has = λ κs x f vs. left ((s.row κs).exit k) x f }

  abbrev pub stays_said : (ss : List (Slot n)) (ks : Kepts ss) → Stays ss ks
  stays_said [] ks = tt
  stays_said (s ∷ ss) ks = (stay_said s ks.0, stays_said ss ks.1)

  pub fits_said : (ss : List (Slot n)) (ks : Kepts ss) (κs : Lfts n) (a : Denots (types_at ss κs)) (ws : Fins κs ss ks a) → fits_of κs ss ks (stays_said ss ks) a ws
  fits_said [] ks κs a ws = tt
  fits_said (s ∷ ss) ks κs a ws = (tt, fits_said ss ks.1 κs a.1 ws.1)

module _ {M : Type 1} {𝓤 : Ura M} (𝓛 : Logic 𝓤) {n : ℕ} where
  pub go_said : (ss : List (Slot n)) (ks : Kepts ss) → AllGo 𝓛 n ss ks (stays_said ss ks)
  go_said [] ks = tt
  go_said (s ∷ ss) ks = ((λ κs x f vs fits. 𝓛.laws.⇛_intro (sem 𝓛 (left ((s.row κs).exit ks.0) x f))), go_said ss ks.1)
