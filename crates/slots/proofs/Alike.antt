-- Keys of which the same is seen at their moments have the same rounds.
--
-- SeenAs es fs t: what is seen of es at t is what is seen of fs, by tallies. seen_refl, seen_sym: that goes both ways
-- sorted_seen: sorting changes nothing of what is seen. append-seen: nor does what is added to both
-- round_alike: the round at a moment. settle-alike: all rounds
use Prim.Native.Nat.{ℕ}
use mathlib.Core.Bool.{Bool}
use mathlib.Core.List.{List, [], ◌∷◌, ◌++◌}
use mathlib.Core.Path.{◌≡◌, refl, sym, ◌∙◌, ap, ap₂}
use lib.IntN.{◌+ℤ◌}
use Rattle.grid.specs.Lists.{sort}
use Rattle.grid.proofs.Lists.{All, cons, all_imp}
use Rattle.grid.proofs.Sums.{sum_sort}
use Rattle.grid.proofs.Consolidate.{share, tally}
use Rattle.rules.specs.Histories.{Edit}
use Rattle.rules.specs.Retire.{Round, dated, round_at, settle}
use Rattle.rules.proofs.Histories.{visible}
use Rattle.rules.proofs.Retire.{seen_ext, visible_append}

pub record SeenAs (es fs : List Edit) (t : ℕ) : Type 0 where
  pub tallies : (p : ℕ → Bool) → tally (visible t p) es ≡ tally (visible t p) fs

pub seen_refl : (es : List Edit) (t : ℕ) → SeenAs es es t
seen_refl es t = record { tallies = λ p. refl }

pub seen_sym : {es fs : List Edit} {t : ℕ} → SeenAs es fs t → SeenAs fs es t
seen_sym h = record { tallies = λ p. sym (h.tallies p) }

pub sorted_seen : (f : Edit → Edit → Bool) (es : List Edit) (t : ℕ) → SeenAs (sort f es) es t
sorted_seen f es t = record { tallies = λ p. sum_sort (share (visible t p)) f es }

pub append-seen : {es fs es' fs' : List Edit} {t : ℕ} → SeenAs es fs t → SeenAs es' fs' t → SeenAs (es ++ es') (fs ++ fs') t
append-seen {es} {fs} {es'} {fs'} {t} h k = record {
  tallies = λ p. visible_append t p es es' ∙ ap₂ ◌+ℤ◌ (h.tallies p) (k.tallies p) ∙ sym (visible_append t p fs fs');
}

module _ (mode : ℕ) {i i' : List Edit} where
  pub round_alike : {o o' : List Edit} (t : ℕ) → SeenAs i i' t → SeenAs o o' t → round_at mode i o t ≡ round_at mode i' o' t
  unfolding round_at
  round_alike {o} {o'} t a b = rw (seen_ext t t i i' a.tallies, seen_ext t t o o' b.tallies)

  pub settle-alike : {o o' : List Edit} (ts : List ℕ) → All (SeenAs i i') ts → All (SeenAs o o') ts → settle mode i o ts ≡ settle mode i' o' ts
  unfolding settle
  settle-alike [] a b = refl
  settle-alike {o} {o'} (t ∷ ts) (cons p a) (cons q b) =
      let e = round_alike t p q in
      let r = round_at mode i o t in
      let r' = round_at mode i' o' t in
      ap₂ ◌∷◌ e
      (settle-alike {o = o ++ dated t r.fixes} {o' = o' ++ dated t r'.fixes} ts a
      (all_imp (λ u h. append-seen h (record { tallies = λ p. ap (λ (x : Round). tally (visible u p) (dated t x.fixes)) e })) b))
