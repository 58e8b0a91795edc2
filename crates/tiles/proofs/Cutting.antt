-- The loop that makes a cut.
--
-- Cutting upper later f₀ f i count: the later held times from i on are inserted into upper, in the first `count` of f, which is as long as f₀
-- cutting_start, cutting_turn, cutting_end: the loop keeps that, as long as it has the front of the later held times
use Prim.Native.Nat.{ℕ, suc, ◌+◌, ◌-◌, ◌≤◌, ◌<◌}
use native.Mathlib.Omega.{arith}
use mathlib.Core.List.{List, [], ◌∷◌, ◌++◌}
use mathlib.Core.Path.{◌≡◌, refl, sym, ◌∙◌, ap, subst}
use lib.ListN.{length, take, drop, get_or, length-drop, length-append}
use lib.Seq.{take_at, take-take, drop-cons, drop-length}
use Rattle.std.proofs.lemmas.Grind.{common_steps}
use Rattle.grid.specs.Frontiers.{inserted, all_inserted}
use Rattle.grid.proofs.Frontiers.{inserted-length, all_inserted-length}
use Rattle.grid.specs.Slices.{Laid}
use Rattle.times.specs.Frontiers.{Inserted}
use Rattle.grid.proofs.Slices.{laid_front, laid-length}
use Rattle.tiles.specs.Described.{Front}

pub record Cutting (upper later f₀ f : List ℕ) (i count : ℕ) : Type 0 where
  pub within : i ≤ length later
  pub same : length f ≡ length f₀
  pub fits : length later + length upper < length f
  pub front : Front (all_inserted (drop i later) upper) f count

pub cutting_start : {upper later f₀ f : List ℕ} {count : ℕ} → length later + length upper < length f₀ → Laid (take 0 f₀ ++ upper) f₀ f count → Cutting upper later f f (length later) count
unfolding all_inserted
cutting_start {upper} {later} {f₀} {f} {count} h l =
    let n : length f ≡ length f₀ = ap length l.holds ∙ laid-length upper f₀ in
    record { within = omega arith; same = refl; fits = omega arith; front = rw drop-length (record { counted = l.counted; within = omega (arith, l.counted); holds = laid_front l (omega arith) }) }

module _ {upper later f₀ f : List ℕ} {i count : ℕ} (w : Cutting upper later f₀ f i count) where
  cutting_more : {f' : List ℕ} {r : ℕ} → 0 < i → Inserted (get_or later (i - 1) 0) f count f' r → Cutting upper later f₀ f' (i - 1) r
  unfolding all_inserted
  cutting_more {f'} {r} h ins =
      let b : i ≤ length later = w.within in
      let n : suc (i - 1) ≡ i = omega arith in
      let d : drop (i - 1) later ≡ get_or later (i - 1) 0 ∷ drop i later = drop-cons later (i - 1) 0 (omega arith) ∙ ap (λ k. get_or later (i - 1) 0 ∷ drop k later) n in
      let cut = all_inserted (drop i later) upper in
      let few : length cut ≤ length (drop i later) + length upper = all_inserted-length upper (drop i later) in
      let m : length (drop i later) ≡ length later - i = length-drop i later in
      let c : count ≡ length cut = w.front.counted in
      let e : take count f ≡ cut = w.front.holds in
      let l : Laid (inserted (get_or later (i - 1) 0) cut) f f' r = subst (λ g. Laid (inserted (get_or later (i - 1) 0) g) f f' r) e (ins.roomy (omega (arith, w.fits))) in
      let long : length (inserted (get_or later (i - 1) 0) cut) ≤ suc (length cut) = inserted-length (get_or later (i - 1) 0) cut in
      let same_long : length f' ≡ length f = ap length l.holds ∙ laid-length _ f in
      record {
        within = omega arith;
        same = same_long ∙ w.same;
        fits = omega (arith, w.fits);
        front = rw d (record { counted = l.counted; within = omega (arith, w.fits, l.counted); holds = laid_front l (omega (arith, w.fits)) });
      }

  pub cutting_end : i ≡ 0 → Front (all_inserted later upper) f count
  cutting_end z = subst (λ n. Front (all_inserted (drop n later) upper) f count) z w.front

-- the last of the times that are left, and those before it
module _ (later : List ℕ) (rest before : List ℕ) (t : ℕ) (e : rest ≡ take (length rest) later) (p : rest ≡ before ++ t ∷ []) where
  one_less : length rest ≡ length before + 1
  one_less = ap length p ∙ length-append before (t ∷ [])

  last_read : length rest ≤ length later → t ≡ get_or later (length before) 0
  last_read h = grind (arith, common_steps)

  still_front : before ≡ take (length before) later
  still_front =
      sym (take_at before (t ∷ []) (length before) refl) ∙ ap (take (length before)) (sym p ∙ e) ∙ take-take (length before) (length rest) later (omega (arith, one_less))

  pub cutting_turn : {upper f₀ f f' : List ℕ} {count r : ℕ} → Cutting upper later f₀ f (length rest) count → Inserted t f count f' r → (before ≡ take (length before) later) × Cutting upper later f₀ f' (length before) r
  cutting_turn {f = f} {f' = f'} {count = count} {r = r} w ins =
      let n : length rest - 1 ≡ length before = omega (arith, one_less) in
      let here : Inserted (get_or later (length rest - 1) 0) f count f' r = rw (n, ← last_read w.within) ins in
      (still_front, rw n at (cutting_more w (omega (arith, one_less)) here))
