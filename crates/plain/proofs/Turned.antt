-- One round of a key.
--
-- turn_shows, turn_shows_out: what showing the input and the output asks. turn_fits: how many sums there are
-- turn_skips: what is promised where nothing is seen. turn-fixes: what settling the moment asks
-- turn-over: what is promised of a correction that is too large. turn_merges: what merging another asks. turn_done: what that gives
use Prim.Native.Nat.{ℕ, ◌+◌, ◌-◌, ◌*◌, ◌<◌, ◌≤◌, ◌^◌}
use native.Mathlib.Omega.{arith}
use mathlib.Core.Bool.{true, false}
use mathlib.Core.Path.{◌≡◌, refl, sym, ◌∙◌, ap, subst}
use mathlib.Core.List.{List, [], ◌∷◌, ◌++◌, append-nil}
use lib.Dec.{leb, ltb}
use lib.IntN.{ℤ, nat_abs}
use lib.ListN.{length, take, length-map, length-take}
use lib.Seq.{length-take-le}
use Rattle.grid.specs.Records.{Row, most_records}
use Rattle.grid.proofs.Lists.{All, all_imp, all_map}
use Rattle.grid.proofs.Sort.{Sorted}
use Rattle.grid.proofs.Sizes.{mass, mass_each}
use Rattle.grid.proofs.Consolidate.{Canon, strict_ltb, canon_consolidate}
use Rattle.grid.proofs.Operations.{no_length}
use Rattle.rules.specs.Histories.{Edit}
use Rattle.rules.specs.Backends.{Sums, wanted, minus, correction}
use Rattle.rules.specs.Retire.{Round, seen, crosses, round_at}
use Rattle.diffs.specs.Diffs.{modest}
use Rattle.backends.specs.Columns.{entries, values_of, Appended}
use Rattle.moments.specs.Present.{edits, Laid, Shows}
use Rattle.moments.specs.Window.{Orderly}
use Rattle.moments.proofs.Orderly.{orderly_more}
use Rattle.moments.proofs.Seen.{seen_canon, seen-modest}
use Rattle.moments.proofs.Columns.{edits_values, edits-diffs, edits-length, front_edits}
use Rattle.moments.proofs.Showing.{seen-length}
use Rattle.rounds.specs.Merges.{merged}
use Rattle.slots.specs.Slots.{rows_in, rows_too_large}
use Rattle.slots.proofs.Large.{not_large}
use Rattle.fixing.specs.Fixes.{fix_rows}
use Rattle.fixing.specs.Settle.{Listed, Fixes, FixedAt, OverAt}
use Rattle.fixing.specs.declared.Fixed.{Fixed}
use Rattle.fixing.proofs.Corrected.{held_values, held_diffs, held_entries, rows_fixed, rows-length, fixes_fit, fixes_small}
use Rattle.plain.specs.Plain.{TurnAsks, TurnDone, TurnOver, MergesBack, MergedBack}
use Rattle.plain.proofs.Merged.{canon_sorted, merged_none, merged_orderly}

-- ---- a round
nothing : (c : Sums) → length c ≡ 0 → c ≡ []
nothing [] e = refl
nothing (y ∷ c) e = no_length (length c) e

some_cross : (i o : Sums) → (length i + length o ≡ 0 → ⊥) → crosses i o ≡ true
unfolding crosses
some_cross [] [] h = absurd (h refl)
some_cross [] (y ∷ o) h = refl
some_cross (y ∷ i) o h = refl

round_skips : (mode t : ℕ) (i o : List Edit) → seen t i ≡ [] → seen t o ≡ [] → round_at mode i o t ≡ record { time = t; crossed = false; fixes = [] }
unfolding round_at crosses
round_skips mode t i o e f = rw (e, f)

round_crosses : (mode t : ℕ) (i o : List Edit) → crosses (seen t i) (seen t o) ≡ true → round_at mode i o t ≡ record { time = t; crossed = true; fixes = correction mode (seen t i) (seen t o) }
unfolding round_at
round_crosses mode t i o e = rw e

correction_canon : (mode : ℕ) (i o : Sums) → Canon ltb (correction mode i o)
unfolding correction
correction_canon mode i o = canon_consolidate strict_ltb (wanted mode i ++ minus o)

no_rows : (k t : ℕ) → fix_rows k t [] ≡ []
unfolding fix_rows
no_rows k t = refl

laid : {vs ts : List ℕ} {ds : List ℤ} → length ts ≡ length vs → length ds ≡ length vs → length vs ≤ 8192 → Orderly 8192 (edits vs ts ds) → Laid vs ts ds
laid {vs} {ts} {ds} a b s o = record {
  same_t = a;
  same_d = b;
  short = s;
  ascends = subst (Sorted leb) (edits_values vs ts ds a b) o.ascends;
  small = subst (All modest) (edits-diffs vs ts ds a b) (all_map {P = modest} (λ (y : Edit). y.1) (all_imp (λ y g. (let l : mass nat_abs (edits vs ts ds) ≤ 8192 * 2 ^ 31 = o.light in omega arith)) (mass_each nat_abs (edits vs ts ds))));
}

module _ {most : ℕ} {vs ts : List ℕ} {ds : List ℤ} {n : ℕ} {uv ut : List ℕ} {ud : List ℤ} {iv : List ℕ} {id : List ℤ} {ov : List ℕ} {od : List ℤ} {cv : List ℕ} {cd : List ℤ} {fk fv ft : List ℕ} {fd : List ℤ} {fixes : ℕ}
    (x : TurnAsks most vs ts ds n uv ut ud iv id ov od cv cd fk fv ft fd fixes) where
  abbrev input : List Edit
  input = edits vs ts ds

  abbrev output : List Edit
  output = take n (edits uv ut ud)

  orderly : Orderly 8192 output
  orderly = let f : fixes ≤ most = x.fits in let c : most ≤ most_records = x.room_few in orderly_more (omega arith) x.output

  pub turn_shows : Shows vs ts ds iv id 0
  turn_shows =
      let s : length vs ≤ most + most = x.short in
      let i : length iv ≡ most + most = x.sums.long_iv in
      let c : most ≤ most_records = x.room_few in
      record { laid = laid x.same_t x.same_d (omega arith) x.input; same = x.sums.long_id ∙ sym i; room = omega arith }

  pub turn_shows_out : Shows (take (n - 0) uv) (take (n - 0) ut) (take (n - 0) ud) ov od 0
  turn_shows_out =
      let w : n ≤ most + fixes = x.within in
      let f : fixes ≤ most = x.fits in
      let c : most ≤ most_records = x.room_few in
      let o : length ov ≡ most + most = x.sums.long_ov in
      let v : length (take (n - 0) uv) ≡ n - 0 = length-take-le (n - 0) uv (let h : length uv ≡ most + most = x.long_uv in omega arith) in
      let t : length (take (n - 0) ut) ≡ n - 0 = length-take-le (n - 0) ut (let h : length ut ≡ most + most = x.long_ut in omega arith) in
      let d : length (take (n - 0) ud) ≡ n - 0 = length-take-le (n - 0) ud (let h : length ud ≡ most + most = x.long_ud in omega arith) in
      record { laid = laid (t ∙ sym v) (d ∙ sym v) (omega arith) (subst (Orderly 8192) (sym (front_edits n uv ut ud)) orderly); same = x.sums.long_od ∙ sym o; room = omega arith }

  module _ (mode k t : ℕ) {iv' : List ℕ} {id' : List ℤ} {a : ℕ} {ov' : List ℕ} {od' : List ℤ} {b : ℕ} (p : Appended iv id 0 (seen t (edits vs ts ds)) iv' id' a)
      (q₀ : Appended ov od 0 (seen t (edits (take (n - 0) uv) (take (n - 0) ut) (take (n - 0) ud))) ov' od' b) where
    abbrev I : Sums
    I = seen t input

    abbrev O : Sums
    O = seen t output

    q : Appended ov od 0 O ov' od' b
    q = subst (λ (es : List Edit). Appended ov od 0 (seen t es) ov' od' b) (front_edits n uv ut ud) q₀

    count_i : a ≡ length I
    count_i = let e : a ≡ 0 + length (values_of I) = p.values.end in let l : length (values_of I) ≡ length I = length-map I (λ (y : ℕ × ℤ). y.0) in omega arith

    count_o : b ≡ length O
    count_o = let e : b ≡ 0 + length (values_of O) = q.values.end in let l : length (values_of O) ≡ length O = length-map O (λ (y : ℕ × ℤ). y.0) in omega arith

    few_i : length I ≤ most + most
    few_i =
        let s : length vs ≤ most + most = x.short in
        let l : length (edits vs ts ds) ≤ length vs = edits-length vs ts ds in
        let m : length I ≤ length (edits vs ts ds) = seen-length t input in
        omega arith

    few_o : length O ≤ most + most
    few_o =
        let w : n ≤ most + fixes = x.within in
        let f : fixes ≤ most = x.fits in
        let l : length output ≤ n = rw length-take (omega arith) in
        let m : length O ≤ length output = seen-length t output in
        omega arith

    pub turn_fits : a + b < 2 ^ 64
    turn_fits =
        let i : length I ≤ most + most = few_i in
        let o : length O ≤ most + most = few_o in
        let e : a ≡ length I = count_i in
        let f : b ≡ length O = count_o in
        let c : most ≤ most_records = x.room_few in
        omega arith

    -- ---- nothing is seen
    pub turn_skips : a + b ≡ 0 → TurnDone most mode k t input output n fixes (record { output = n; crossed = false; fixes = fixes }) uv ut ud fk fv ft fd fk fv ft fd
    turn_skips z =
        let e : a ≡ length I = count_i in
        let f : b ≡ length O = count_o in
        let r = round_skips mode t input output (nothing I (omega arith)) (nothing O (omega arith)) in
        record {
          crossed_is = sym (ap (λ (y : Round). y.crossed) r);
          listed = subst (λ (R : List Row). Listed most R fixes false fixes fk fv ft fd fk fv ft fd) (sym (ap (rows_in k) r ∙ sym (rows_fixed k t false []) ∙ no_rows k t))
              (record { large_is = sym (not_large fixes x.fits); fixes_are = λ h. omega arith; rows_are = λ h. sym (append-nil _) });
          output_is = sym (ap (λ (y : Round). merged output t y.fixes) r ∙ merged_none t output orderly);
          within = x.within;
          orderly = x.output;
        }

    -- ---- the correction
    pub turn-fixes : Fixes most (take (a - 0) iv') (take (a - 0) id') (take (b - 0) ov') (take (b - 0) od') cv cd fk fv ft fd fixes
    turn-fixes =
        let i : length I ≤ most + most = few_i in
        let o : length O ≤ most + most = few_o in
        let li : length (take (a - 0) iv') ≡ length I = ap length (held_values p) ∙ length-map I (λ (y : ℕ × ℤ). y.0) in
        let ld : length (take (a - 0) id') ≡ length I = ap length (held_diffs p) ∙ length-map I (λ (y : ℕ × ℤ). y.1) in
        let lo : length (take (b - 0) ov') ≡ length O = ap length (held_values q) ∙ length-map O (λ (y : ℕ × ℤ). y.0) in
        let le : length (take (b - 0) od') ≡ length O = ap length (held_diffs q) ∙ length-map O (λ (y : ℕ × ℤ). y.1) in
        let c : length cv ≡ (most + most) + (most + most) = x.sums.long_cv in
        let r : most ≤ most_records = x.room_few in
        record {
          segment = record {
            ready = record {
              same_i = ld ∙ sym li;
              same_o = le ∙ sym lo;
              same_c = x.sums.long_cd ∙ sym c;
              room = omega arith;
              canon_i = subst (Canon ltb) (sym (held_entries p)) (seen_canon t input);
              canon_o = subst (Canon ltb) (sym (held_entries q)) (seen_canon t output);
              small_o = subst (All modest) (sym (held_diffs q)) (seen-modest t output orderly.light);
            };
            short = omega arith;
            small_i = subst (All modest) (sym (held_diffs p)) (seen-modest t input x.input.light);
          };
          lent = x.lent;
          fits = x.fits;
          few = x.room_few;
        }

    module _ (some : a + b ≡ 0 → ⊥) where
      abbrev C : Sums
      C = correction mode I O

      given : correction mode (entries (take (a - 0) iv') (take (a - 0) id')) (entries (take (b - 0) ov') (take (b - 0) od')) ≡ C
      given = λ z. correction mode (held_entries p z) (held_entries q z)

      round_is : round_at mode input output t ≡ record { time = t; crossed = true; fixes = C }
      round_is = round_crosses mode t input output (some_cross I O (λ z. some (let e : a ≡ length I = count_i in let g : b ≡ length O = count_o in omega arith)))

      rows_are : fix_rows k t C ≡ rows_in k (round_at mode input output t)
      rows_are = rows_fixed k t true C ∙ ap (rows_in k) (sym round_is)

      pub turn-over : {cv' : List ℕ} {cd' : List ℤ} → OverAt most k t (correction mode (entries (take (a - 0) iv') (take (a - 0) id')) (entries (take (b - 0) ov') (take (b - 0) od'))) cv cd fixes cv' cd'
          → TurnOver most mode k t input output fixes
      turn-over d = sym (ap (λ c. rows_too_large most fixes (fix_rows k t c)) given ∙ ap (rows_too_large most fixes) rows_are) ∙ d.large_is

      module _ {f : Fixed} {cv' : List ℕ} {cd' : List ℤ} {fk' fv' ft' : List ℕ} {fd' : List ℤ}
          (d₀ : FixedAt most k t (correction mode (entries (take (a - 0) iv') (take (a - 0) id')) (entries (take (b - 0) ov') (take (b - 0) od'))) cv cd fixes f cv' cd' fk fv ft fd fk' fv' ft' fd') where
        d : FixedAt most k t C cv cd fixes f cv' cd' fk fv ft fd fk' fv' ft' fd'
        d = subst (λ (c : Sums). FixedAt most k t c cv cd fixes f cv' cd' fk fv ft fd fk' fv' ft' fd') given d₀

        listed_is : Listed most (rows_in k (round_at mode input output t)) fixes false f.fixes fk fv ft fd fk' fv' ft' fd'
        listed_is = subst (λ (R : List Row). Listed most R fixes false f.fixes fk fv ft fd fk' fv' ft' fd') rows_are d.listed

        not-over : rows_too_large most fixes (fix_rows k t C) ≡ false
        not-over = sym d.listed.large_is

        pub turn_merges : length iv' ≡ length iv → length ov' ≡ length ov → length id' ≡ length id → MergesBack n (take (f.count - 0) cv') (take (f.count - 0) cd') uv ut ud iv' ov' id'
        turn_merges li lo ld =
            let lc : length (take (f.count - 0) cv') ≡ length C = ap length (held_values d.corrected) ∙ length-map C (λ (y : ℕ × ℤ). y.0) in
            let le : length (take (f.count - 0) cd') ≡ length C = ap length (held_diffs d.corrected) ∙ length-map C (λ (y : ℕ × ℤ). y.1) in
            let w : n ≤ most + fixes = x.within in
            let g : fixes + length C ≤ most = fixes_fit most fixes k t C not-over in
            let u : length uv ≡ most + most = x.long_uv in
            record {
              same_cd = le ∙ sym lc;
              long_ut = x.long_ut ∙ sym u;
              long_ud = x.long_ud ∙ sym u;
              long_yv = li ∙ x.sums.long_iv ∙ sym u;
              long_yt = lo ∙ x.sums.long_ov ∙ sym u;
              long_yd = ld ∙ x.sums.long_id ∙ sym u;
              room = omega arith;
              ascends_u = x.output.ascends;
              ascends_c = subst (Sorted leb) (sym (held_values d.corrected)) (canon_sorted (correction_canon mode I O));
            }

        pub turn_done : {uv' ut' : List ℕ} {ud' : List ℤ} {m : ℕ} → MergedBack t output (entries (take (f.count - 0) cv') (take (f.count - 0) cd')) uv' ut' ud' m
            → TurnDone most mode k t input output n fixes (record { output = m; crossed = true; fixes = f.fixes }) uv' ut' ud' fk fv ft fd fk' fv' ft' fd'
        turn_done {uv'} {ut'} {ud'} {m} g₀ =
            let g : MergedBack t output C uv' ut' ud' m = subst (λ (c : Sums). MergedBack t output c uv' ut' ud' m) (held_entries d.corrected) g₀ in
            let e : m ≡ length output + length C = g.count_is in
            let l : length output ≤ n = rw length-take (omega arith) in
            let w : n ≤ most + fixes = x.within in
            let s : f.fixes ≡ fixes + length (fix_rows k t C) = d.listed.fixes_are refl in
            let r : length (fix_rows k t C) ≡ length C = rows-length k t C in
            record {
              crossed_is = sym (ap (λ (y : Round). y.crossed) round_is);
              listed = listed_is;
              output_is = g.output_is ∙ ap (λ (y : Round). merged output t y.fixes) (sym round_is);
              within = omega arith;
              orderly = subst (Orderly (most_records + f.fixes)) (sym g.output_is) (merged_orderly output t C (omega arith) x.output (fixes_small most fixes k t C not-over));
            }
