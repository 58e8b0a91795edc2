-- A key's input and output, loaded.
--
-- key_input, key_output: what the loads ask. key_loaded: what they leave
use Prim.Native.Nat.{ℕ, ◌≤◌}
use native.Mathlib.Omega.{arith}
use mathlib.Core.Path.{◌≡◌, sym, ◌∙◌, ap, subst}
use mathlib.Core.List.{List}
use mathlib.Core.Option.{some}
use lib.IntN.{ℤ, nat_abs}
use lib.ListN.{length, take, get_or}
use Rattle.grid.proofs.Sizes.{sizing_nat_abs, mass}
use Rattle.rules.specs.Histories.{Edit, load_edits}
use Rattle.rules.proofs.Wave.{load_mass}
use Rattle.consolidation.specs.Entries as columns
use Rattle.consolidation.specs.Entries.{most_mass}
use Rattle.edits.specs.Edits as timed
use Rattle.edits.specs.Buffers.{LoadsEdits, LentLoad}
use Rattle.edits.proofs.Masses.{mass_column}
use Rattle.moments.specs.Present.{edits}
use Rattle.moments.proofs.Columns.{edits_long}
use Rattle.gather.specs.Meets.{meet_of, meets_of}
use Rattle.gather.specs.Loads.{Timely, LoadsKey, LoadedKey}
use Rattle.gather.proofs.Columns.{edits_both}
use Rattle.gather.proofs.Meeting.{meets_at}
use Rattle.gather.proofs.Under.{load_timely}

-- ---- one load
record Leaves (es : List Edit) (m : ℕ) (xs : List Edit) (n : ℕ) : Type 0 where
  pub is : take n xs ≡ load_edits (some m) es
  pub few : n ≤ length es
  pub long : n ≤ length xs
  pub timely : Timely (take n xs)
  pub light : mass nat_abs (take n xs) ≤ mass nat_abs es

module _ (vs ts : List ℕ) (ds : List ℤ) (p : length ts ≡ length vs) (q : length ds ≡ length vs) where
  load_asks : {xv xt : List ℕ} {xd : List ℤ} {joins places : List ℕ} → mass nat_abs (edits vs ts ds) ≤ most_mass → length xt ≡ length xv → length xd ≡ length xv → length vs ≤ length xv
      → length vs ≤ length joins → length vs ≤ length places → LentLoad ts vs ds joins places xt xv xd
  load_asks b p' q' r rj rp =
      let e : columns.mass ds ≡ mass nat_abs (edits vs ts ds) = mass_column ts vs ds (record { values = sym p; diffs = q ∙ sym p }) ∙ ap (mass nat_abs) (edits_both ts vs ds) in
      record {
        lent = record { alike-second = sym p; alike-diff = q ∙ sym p; bounded = rw e b };
        alike = record { values = sym p'; diffs = q' ∙ sym p' };
        room = omega arith;
        room_joins = omega arith;
        room_places = omega arith;
      }

  load_leaves : {m o : ℕ} (xv xt : List ℕ) (xd : List ℤ) {es : List Edit} {joins joins' places places' : List ℕ} {n : ℕ} → o ≡ m → length xt ≡ length xv → length xd ≡ length xv → length vs ≤ length xv
      → LoadsEdits (some o) ts vs ds es (timed.edits xt xv xd) joins joins' places places' n → Leaves (edits vs ts ds) m (edits xv xt xd) n
  load_leaves {m} {o} xv xt xd {n = n} i p' q' r l =
      let e : take n (edits xv xt xd) ≡ load_edits (some m) (edits vs ts ds) = ap (take n) (sym (edits_both xt xv xd)) ∙ l.loaded ∙ (λ z. load_edits (some (i z)) (edits_both ts vs ds z)) in
      let a : length (edits vs ts ds) ≡ length vs = edits_long vs ts ds p q in
      let b : length (edits xv xt xd) ≡ length xv = edits_long xv xt xd p' q' in
      let w : n ≤ length ts = l.within in
      let x : mass nat_abs (take n (edits xv xt xd)) ≡ mass nat_abs (load_edits (some m) (edits vs ts ds)) = ap (mass nat_abs) e in
      record {
        is = e;
        few = omega arith;
        long = omega arith;
        timely = subst Timely (sym e) (load_timely m (edits vs ts ds));
        light = omega (arith, x, load_mass sizing_nat_abs (some m) (edits vs ts ds));
      }

-- ---- both
module _ {moments vs ts : List ℕ} {ds : List ℤ} {ovs ots : List ℕ} {ods : List ℤ} {far xv xt : List ℕ} {xd : List ℤ} {sv st : List ℕ} {sd : List ℤ} {joins places : List ℕ}
    (a : LoadsKey moments vs ts ds ovs ots ods far xv xt xd sv st sd joins places) where
  pub key_input : LentLoad ts vs ds joins places xt xv xd
  key_input = load_asks vs ts ds a.same_t a.same_d a.light a.same_xt a.same_xd a.room_x a.room_j a.room_p

  pub key_output : {joins' places' : List ℕ} → length joins' ≡ length joins → length places' ≡ length places → LentLoad ots ovs ods joins' places' st sv sd
  key_output j p =
      let x : length ovs ≤ length joins = a.out_j in
      let y : length ovs ≤ length places = a.out_p in
      load_asks ovs ots ods a.same_ot a.same_od a.out_light a.same_st a.same_sd a.room_s (omega arith) (omega arith)

  pub key_loaded : (far' xv' xt' : List ℕ) (xd' : List ℤ) (sv' st' : List ℕ) (sd' : List ℤ) {es es' : List Edit} {j₁ j₂ j₃ p₁ p₂ p₃ : List ℕ} {n o : ℕ}
      → length xv' ≡ length xv → length xt' ≡ length xt → length xd' ≡ length xd → length sv' ≡ length sv → length st' ≡ length st → length sd' ≡ length sd
      → take (length moments) far' ≡ meets_of moments
      → LoadsEdits (some (get_or far' 0 0)) ts vs ds es (timed.edits xt' xv' xd') j₁ j₂ p₁ p₂ n
      → LoadsEdits (some (get_or far' 0 0)) ots ovs ods es' (timed.edits st' sv' sd') j₂ j₃ p₂ p₃ o
      → LoadedKey moments (edits vs ts ds) (edits ovs ots ods) far' (edits xv' xt' xd') (edits sv' st' sd') (record { input = n; output = o })
  key_loaded far' xv' xt' xd' sv' st' sd' {n = n} {o = o} xv₁ xt₁ xd₁ sv₁ st₁ sd₁ e x y =
      let m : get_or far' 0 0 ≡ meet_of moments = meets_at moments far' 0 e a.some_moment in
      let rx : length vs ≤ length xv = a.room_x in
      let rs : length ovs ≤ length sv = a.room_s in
      let i : Leaves (edits vs ts ds) (meet_of moments) (edits xv' xt' xd') n = load_leaves vs ts ds a.same_t a.same_d xv' xt' xd' m (xt₁ ∙ a.same_xt ∙ sym xv₁) (xd₁ ∙ a.same_xd ∙ sym xv₁) (omega arith) x in
      let u : Leaves (edits ovs ots ods) (meet_of moments) (edits sv' st' sd') o = load_leaves ovs ots ods a.same_ot a.same_od sv' st' sd' m (st₁ ∙ a.same_st ∙ sym sv₁) (sd₁ ∙ a.same_sd ∙ sym sv₁) (omega arith) y in
      record {
        meets_are = e;
        input_is = i.is;
        input_few = i.few;
        input_long = i.long;
        input_timely = i.timely;
        input_light = i.light;
        output_is = u.is;
        output_few = u.few;
        output_long = u.long;
        output_timely = u.timely;
        output_light = u.light;
      }
