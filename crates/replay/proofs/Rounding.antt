-- One round of a key by a collapsed replay.
--
-- gather_input, gather_output: what gathering asks. input_bounds, show_input, output_bounds, show_output: what showing what is held asks then
-- adds_fit: what is seen can be counted. nothing_taken: what the round leaves where nothing is seen
-- fix_asks: what settling what is seen asks. over_taken: what the round leaves where the corrections become too large
-- date_asks: what appending the correction to the output asks. fixed_taken: what that leaves
use Prim.Native.Nat.{ℕ, ◌+◌, ◌-◌, ◌*◌, ◌^◌, ◌≤◌, ◌<◌}
use native.Mathlib.Omega.{arith}
use mathlib.Core.Bool.{Bool, true, false}
use mathlib.Core.List.{List, [], ◌∷◌, ◌++◌, map, append-nil}
use mathlib.Core.Path.{◌≡◌, refl, sym, ◌∙◌, ap, subst}
use lib.Dec.{leb, ltb}
use lib.IntN.{ℤ, nat_abs}
use lib.ListN.{length, take, drop, length-map, length-take}
use lib.Seq.{length-take-le}
use Rattle.grid.specs.Lists.{past}
use Rattle.grid.proofs.Tests.{by-test}
use Rattle.grid.proofs.Lists.{All, all_map}
use Rattle.grid.proofs.Operations.{no_length}
use Rattle.grid.proofs.Sizes.{mass, mass-append, mass_most}
use Rattle.grid.proofs.Sort.{Sorted, more}
use Rattle.grid.proofs.Consolidate.{Canon}
use Rattle.rules.specs.Histories.{Edit, value_of}
use Rattle.rules.specs.Backends.{Sums, correction}
use Rattle.rules.specs.Retire.{Round, seen, crosses, dated, round_at}
use Rattle.rules.proofs.Retire.{canon_seen}
use Rattle.diffs.specs.Diffs.{modest}
use Rattle.backends.specs.Columns.{entries, Appended}
use Rattle.backends.specs.Segments.{part}
use Rattle.moments.specs.Present.{edits, Shows}
use Rattle.moments.proofs.Columns.{edits_long, front_edits}
use Rattle.moments.proofs.Showing.{laid-part, seen-length}
use Rattle.moments.proofs.Seen.{seen-modest}
use Rattle.rounds.specs.Merges.{Rows}
use Rattle.slots.specs.Slots.{rows_in, rows_too_large}
use Rattle.slots.proofs.Large.{not_large}
use Rattle.fixing.specs.Fixes.{fix_rows}
use Rattle.fixing.specs.Settle.{Fixes, FixedAt, OverAt}
use Rattle.fixing.specs.declared.Fixed.{Fixed}
use Rattle.fixing.proofs.Left.{listed}
use Rattle.fixing.proofs.Corrected.{held_diffs, held_entries, rows_fixed, rows-length, fixes_fit, fixes_small}
use Rattle.gather.specs.Loads.{Timely}
use Rattle.gather.specs.Gather.{up_to, Within, WithinDone, From, FromDone, Dates}
use Rattle.gather.specs.declared.Held.{Held}
use Rattle.gather.proofs.Columns.{rows_front}
use Rattle.replay.specs.Replay.{Staged, TurnAsks, TurnTaken, TurnOver, input_now, output_now}
use Rattle.replay.specs.declared.Stage.{Stage}

-- ---- edits
timely_past : (t : ℕ) (es : List Edit) → Timely es → Timely (past (up_to t) es)
timely_past t [] s = s
timely_past t (e ∷ es) (more a s) = by-test (up_to t e) (λ q. rw q (timely_past t es s)) (λ q. rw q (more a s))

-- how far two columns were written
end_is : {cv₀ : List ℕ} {cd₀ : List ℤ} {s : Sums} {cv : List ℕ} {cd : List ℤ} {r : ℕ} → Appended cv₀ cd₀ 0 s cv cd r → r ≡ length s
end_is {s = s} {r = r} a =
    let e : r ≡ 0 + length (map (λ (y : ℕ × ℤ). y.0) s) = a.values.end in
    let n : length (map (λ (y : ℕ × ℤ). y.0) s) ≡ length s = length-map s (λ (y : ℕ × ℤ). y.0) in
    omega arith

shows_front : {long wide : ℕ} (n : ℕ) (vs ts : List ℕ) (ds : List ℤ) (sv : List ℕ) (sd : List ℤ) → length vs ≡ long → length ts ≡ long → length ds ≡ long → length sv ≡ wide → length sd ≡ wide
    → long ≤ 8192 → n ≤ long → n ≤ wide → Sorted leb (map value_of (take n (edits vs ts ds))) → mass nat_abs (take n (edits vs ts ds)) ≤ 8192 * 2 ^ 31 → Shows (take (n - 0) vs) (take (n - 0) ts) (take (n - 0) ds) sv sd 0
shows_front n vs ts ds sv sd a b c d e f h w s l =
    let z : n ≡ n - 0 = omega arith in
    let k : length (take (n - 0) vs) ≡ n - 0 = length-take-le (n - 0) vs (omega arith) in
    record {
      laid = laid-part 0 n vs ts ds (b ∙ sym a) (c ∙ sym a) (omega arith) (omega arith) (omega arith)
          (record {
            ascends = subst (λ i. Sorted leb (map value_of (take i (edits vs ts ds)))) z s;
            light = subst (λ i. mass nat_abs (take i (edits vs ts ds)) ≤ 8192 * 2 ^ 31) z l;
          });
      same = e ∙ sym d;
      room = omega arith;
    }

-- ---- a round's rows
fix-rows : (k mode : ℕ) (I O : List Edit) (t : ℕ) → crosses (seen t I) (seen t O) ≡ true → fix_rows k t (correction mode (seen t I) (seen t O)) ≡ rows_in k (round_at mode I O t)
unfolding round_at
fix-rows k mode I O t e = rw e (rows_fixed k t true (correction mode (seen t I) (seen t O)))

fixes_are : (mode : ℕ) (I O : List Edit) (t : ℕ) → crosses (seen t I) (seen t O) ≡ true → correction mode (seen t I) (seen t O) ≡ (round_at mode I O t).fixes
unfolding round_at
fixes_are mode I O t e = rw e

crossed_is : (mode : ℕ) (I O : List Edit) (t : ℕ) → crosses (seen t I) (seen t O) ≡ (round_at mode I O t).crossed
unfolding round_at
crossed_is mode I O t = refl

none_fixes : (mode : ℕ) (I O : List Edit) (t : ℕ) → crosses (seen t I) (seen t O) ≡ false → (round_at mode I O t).fixes ≡ []
unfolding round_at
none_fixes mode I O t e = rw e

none_rows : (k : ℕ) (r : Round) → r.fixes ≡ [] → rows_in k r ≡ []
unfolding rows_in
none_rows k r e = rw e

none_crosses : (i o : Sums) → length i + length o ≡ 0 → crosses i o ≡ false
unfolding crosses
none_crosses [] [] e = refl
none_crosses [] (y ∷ o) e = no_length (length o) (omega arith)
none_crosses (x ∷ i) o e = no_length (length i) (omega arith)

some_crosses : (i o : Sums) → (length i + length o ≡ 0 → ⊥) → crosses i o ≡ true
unfolding crosses
some_crosses [] [] n = absurd (n refl)
some_crosses [] (y ∷ o) n = refl
some_crosses (x ∷ i) o n = refl

dated-length : (t : ℕ) (c : Sums) → length (dated t c) ≡ length c
unfolding dated
dated-length t c = length-map c _

-- diffs in range
dated-mass : (most k t n : ℕ) (c : Sums) → rows_too_large most n (fix_rows k t c) ≡ false → mass nat_abs (dated t c) ≤ length c * 2 ^ 31
unfolding dated
dated-mass most k t n c q =
    let b : mass nat_abs (dated t c) ≤ length (dated t c) * 2 ^ 31 = mass_most nat_abs (2 ^ 31) (all_map _ (fixes_small most n k t c q)) in
    let l : length (dated t c) ≡ length c = length-map c _ in
    let g : length (dated t c) * 2 ^ 31 ≡ length c * 2 ^ 31 = ap (λ i. i * 2 ^ 31) l in
    omega (arith, b, g)

take_few : {A : Type 0} (n : ℕ) (l : List A) → length (take n l) ≤ n
take_few n l = rw length-take (omega arith)

dated_none : (t : ℕ) (es : List Edit) → es ++ dated t [] ≡ es
unfolding dated
dated_none t es = append-nil es

-- ---- a round
module _ {most e : ℕ} {sv st : List ℕ} {sd : List ℤ} {xv xt : List ℕ} {xd : List ℤ} {uv ut : List ℕ} {ud : List ℤ} {iv : List ℕ} {id : List ℤ} {ov : List ℕ} {od : List ℤ} {cv : List ℕ} {cd : List ℤ} {fk fv ft : List ℕ} {fd : List ℤ} {w : Stage}
    (x : TurnAsks most e sv st sd xv xt xd uv ut ud iv id ov od cv cd fk fv ft fd w) where
  abbrev S : List Edit
  S = edits sv st sd

  abbrev X : List Edit
  X = edits xv xt xd

  abbrev U : List Edit
  U = edits uv ut ud

  long_s : length (edits sv st sd) ≡ length sv
  long_s = edits_long sv st sd x.same_st x.same_sd

  twice_few : most + most ≤ 8192
  twice_few = let r : most ≤ 4096 = x.room_few in omega (arith, r)

  fixes_few : w.fixes ≤ 4096
  fixes_few = let f : w.fixes ≤ most = x.staged.fits in let r : most ≤ 4096 = x.room_few in omega (arith, f, r)

  pub gather_input : Within w.at e w.held xv xt xd cv iv ov od
  gather_input =
      let a : e ≤ most + most = x.staged.within in
      let r : most + most ≤ 8192 = twice_few in
      let b : length xv ≡ 8192 = x.long_xv in
      let c : length cv ≡ (most + most) + (most + most) = x.sums.long_cv in
      let d : length iv ≡ most + most = x.sums.long_iv in
      let f : length ov ≡ most + most = x.sums.long_ov in
      let g : length od ≡ most + most = x.sums.long_od in
      let l = x.staged.input_light in
      record {
        moves = record { same_t = x.long_xt ∙ sym b; same_d = x.long_xd ∙ sym b; before = x.staged.before; forth = x.staged.forth; within = omega (arith, a, r, b) };
        light = omega (arith, l);
        scratch = record { room_places = omega (arith, a, c); room_firsts = omega (arith, a, d); room_seconds = omega (arith, a, f); room_sums = omega (arith, a, g) };
      }

  pub gather_output : {cv₁ iv₁ ov₁ : List ℕ} {od₁ : List ℤ} → length cv₁ ≡ length cv → length iv₁ ≡ length iv → length ov₁ ≡ length ov → length od₁ ≡ length od
      → From w.out sv st sd w.output uv ut ud cv₁ iv₁ ov₁ od₁
  gather_output {cv₁} {iv₁} {ov₁} {od₁} lc li lo ld =
      let b : length uv ≡ most + most = x.long_uv in
      let c : length cv₁ ≡ (most + most) + (most + most) = lc ∙ x.sums.long_cv in
      let d : length iv₁ ≡ most + most = li ∙ x.sums.long_iv in
      let f : length ov₁ ≡ most + most = lo ∙ x.sums.long_ov in
      let g : length od₁ ≡ most + most = ld ∙ x.sums.long_od in
      let l : mass nat_abs (take w.output U) + mass nat_abs (drop w.out S) ≤ (4096 + w.fixes) * 2 ^ 31 = x.staged.output_light in
      let n : w.output + (length S - w.out) ≤ most + w.fixes = x.staged.output_few in
      let y : w.fixes ≤ most = x.staged.fits in
      let z : w.fixes ≤ 4096 = fixes_few in
      let s : length S ≡ length sv = long_s in
      let o : w.out ≤ length S = x.staged.out_forth in
      let k : w.output + (length sv - w.out) ≤ most + most = omega (arith, n, y, s) in
      record {
        same_st = x.same_st;
        same_sd = x.same_sd;
        forth = omega (arith, o, s);
        same_t = x.long_ut ∙ sym b;
        same_d = x.long_ud ∙ sym b;
        room = omega (arith, k, b);
        light = omega (arith, l, z);
        scratch = record { room_places = omega (arith, k, c); room_firsts = omega (arith, k, d); room_seconds = omega (arith, k, f); room_sums = omega (arith, k, g) };
      }

  module _ {t m : ℕ} {h : Held} (xv₁ xt₁ : List ℕ) (xd₁ : List ℤ) (g : WithinDone t m w.at e w.held (edits xv xt xd) (edits xv₁ xt₁ xd₁) h)
      (lxv : length xv₁ ≡ length xv) (lxt : length xt₁ ≡ length xt) (lxd : length xd₁ ≡ length xd) where
    abbrev X₁ : List Edit
    X₁ = edits xv₁ xt₁ xd₁

    held_few : h.count ≤ most + most
    held_few =
        let a : h.count ≤ h.at = g.before in
        let b : h.at ≤ e = g.forth in
        let c : e ≤ most + most = x.staged.within in
        omega (arith, a, b, c)

    pub input_bounds : (h.count ≤ length xv₁) × ((h.count ≤ length xt₁) × (h.count ≤ length xd₁))
    input_bounds =
        let k : h.count ≤ most + most = held_few in
        let r : most + most ≤ 8192 = twice_few in
        let a : length xv₁ ≡ 8192 = lxv ∙ x.long_xv in
        let b : length xt₁ ≡ 8192 = lxt ∙ x.long_xt in
        let c : length xd₁ ≡ 8192 = lxd ∙ x.long_xd in
        (omega (arith, k, r, a), (omega (arith, k, r, b), omega (arith, k, r, c)))

    input_mass : mass nat_abs (take h.count X₁) + mass nat_abs (part h.at e X₁) ≤ 8192 * 2 ^ 31
    input_mass = let a = g.light in let b = x.staged.input_light in omega (arith, a, b)

    pub show_input : {iv₂ : List ℕ} → length iv₂ ≡ length iv → Shows (take (h.count - 0) xv₁) (take (h.count - 0) xt₁) (take (h.count - 0) xd₁) iv₂ id 0
    show_input {iv₂} li =
        let l = input_mass in
        let k : h.count ≤ most + most = held_few in
        let r : most + most ≤ 8192 = twice_few in
        shows_front h.count xv₁ xt₁ xd₁ iv₂ id (lxv ∙ x.long_xv) (lxt ∙ x.long_xt) (lxd ∙ x.long_xd) (li ∙ x.sums.long_iv) x.sums.long_id (omega arith) (omega (arith, k, r)) k g.held_ascends (omega (arith, l))

    module _ {u : Held} (uv₁ ut₁ : List ℕ) (ud₁ : List ℤ) (f : FromDone t m w.out (edits sv st sd) w.output (edits uv ut ud) (edits uv₁ ut₁ ud₁) u)
        (luv : length uv₁ ≡ length uv) (lut : length ut₁ ≡ length ut) (lud : length ud₁ ≡ length ud) where
      abbrev U₁ : List Edit
      U₁ = edits uv₁ ut₁ ud₁

      output_few : u.count + (length S - u.at) ≤ most + w.fixes
      output_few =
          let a : u.count + (length S - u.at) ≤ w.output + (length S - w.out) = f.fewer in
          let b : w.output + (length S - w.out) ≤ most + w.fixes = x.staged.output_few in
          omega (arith, a, b)

      output_mass : mass nat_abs (take u.count U₁) + mass nat_abs (drop u.at S) ≤ (4096 + w.fixes) * 2 ^ 31
      output_mass = let a = f.light in let b : mass nat_abs (take w.output U) + mass nat_abs (drop w.out S) ≤ (4096 + w.fixes) * 2 ^ 31 = x.staged.output_light in omega (arith, a, b)

      pub output_bounds : (u.count ≤ length uv₁) × ((u.count ≤ length ut₁) × (u.count ≤ length ud₁))
      output_bounds =
          let k : u.count + (length S - u.at) ≤ most + w.fixes = output_few in
          let z : w.fixes ≤ most = x.staged.fits in
          let a : length uv₁ ≡ most + most = luv ∙ x.long_uv in
          let b : length ut₁ ≡ most + most = lut ∙ x.long_ut in
          let c : length ud₁ ≡ most + most = lud ∙ x.long_ud in
          (omega (arith, k, z, a), (omega (arith, k, z, b), omega (arith, k, z, c)))

      pub show_output : {ov₂ : List ℕ} {od₂ : List ℤ} → length ov₂ ≡ length ov → length od₂ ≡ length od → Shows (take (u.count - 0) uv₁) (take (u.count - 0) ut₁) (take (u.count - 0) ud₁) ov₂ od₂ 0
      show_output {ov₂} {od₂} lo ld =
          let l = output_mass in
          let y : w.fixes ≤ most = x.staged.fits in
          let z : w.fixes ≤ 4096 = fixes_few in
          let k : u.count + (length S - u.at) ≤ most + w.fixes = output_few in
          shows_front u.count uv₁ ut₁ ud₁ ov₂ od₂ (luv ∙ x.long_uv) (lut ∙ x.long_ut) (lud ∙ x.long_ud) (lo ∙ x.sums.long_ov) (ld ∙ x.sums.long_od) twice_few (omega (arith, k, y)) (omega (arith, k, y)) f.held_ascends (omega (arith, l, z))

      -- where the key stands after the round, with j edits of its output held and n corrections
      abbrev past_round : ℕ → Bool → ℕ → Stage
      past_round j c n = record { held = h.count; at = h.at; output = j; out = u.at; crossed = c; fixes = n }

      stands : (U₃ : List Edit) (j n : ℕ) (c : Bool) → j + (length S - u.at) ≤ most + n → mass nat_abs (take j U₃) + mass nat_abs (drop u.at S) ≤ (4096 + n) * 2 ^ 31 → n ≤ most
          → Staged most e S X₁ U₃ (past_round j c n)
      stands U₃ j n c few light fits = record {
        before = g.before;
        forth = g.forth;
        within = x.staged.within;
        input_timely = subst Timely (sym g.ahead_is) (timely_past t (part w.at e X) x.staged.input_timely);
        input_light = input_mass;
        out_forth = f.forth;
        output_timely = subst Timely (sym f.ahead_is) (timely_past t (drop w.out S) x.staged.output_timely);
        output_few = few;
        output_light = light;
        fits = fits;
      }

      module _ {iv₂ iv₃ : List ℕ} {id₃ : List ℤ} {a : ℕ} {ov₂ : List ℕ} {od₂ : List ℤ} {ov₃ : List ℕ} {od₃ : List ℤ} {b : ℕ}
          (p : Appended iv₂ id 0 (seen t (edits (take (h.count - 0) xv₁) (take (h.count - 0) xt₁) (take (h.count - 0) xd₁))) iv₃ id₃ a)
          (q : Appended ov₂ od₂ 0 (seen t (edits (take (u.count - 0) uv₁) (take (u.count - 0) ut₁) (take (u.count - 0) ud₁))) ov₃ od₃ b) where
        abbrev I : List Edit
        I = input_now t m e X w

        abbrev O : List Edit
        O = output_now t m S U w

        seen_input : Appended iv₂ id 0 (seen t (input_now t m e (edits xv xt xd) w)) iv₃ id₃ a
        seen_input = subst (λ (es : List Edit). Appended iv₂ id 0 (seen t es) iv₃ id₃ a) (front_edits h.count xv₁ xt₁ xd₁ ∙ g.held_is) p

        seen_output : Appended ov₂ od₂ 0 (seen t (output_now t m (edits sv st sd) (edits uv ut ud) w)) ov₃ od₃ b
        seen_output = subst (λ (es : List Edit). Appended ov₂ od₂ 0 (seen t es) ov₃ od₃ b) (front_edits u.count uv₁ ut₁ ud₁ ∙ f.held_is) q

        long_i : a ≡ length (seen t I)
        long_i = end_is seen_input

        long_o : b ≡ length (seen t O)
        long_o = end_is seen_output

        few_i : a ≤ most + most
        few_i =
            let n : a ≡ length (seen t I) = long_i in
            let l : length (seen t I) ≤ length I = seen-length t I in
            let k : length (take h.count X₁) ≡ length I = ap length g.held_is in
            let j : length (take h.count X₁) ≤ h.count = take_few h.count X₁ in
            let i : h.count ≤ most + most = held_few in
            omega (arith, n, l, k, j, i)

        few_o : b ≤ most + most
        few_o =
            let n : b ≡ length (seen t O) = long_o in
            let l : length (seen t O) ≤ length O = seen-length t O in
            let k : length (take u.count U₁) ≡ length O = ap length f.held_is in
            let j : length (take u.count U₁) ≤ u.count = take_few u.count U₁ in
            let i : u.count + (length S - u.at) ≤ most + w.fixes = output_few in
            let z : w.fixes ≤ most = x.staged.fits in
            omega (arith, n, l, k, j, i, z)

        pub adds_fit : a + b < 2 ^ 64
        adds_fit = let i : a ≤ most + most = few_i in let o : b ≤ most + most = few_o in let r : most + most ≤ 8192 = twice_few in omega (arith, i, o, r)

        -- ---- where nothing is seen
        pub nothing_taken : (mode k : ℕ) → a + b ≡ 0
            → TurnTaken most mode k t m e (edits sv st sd) (edits xv xt xd) (edits uv ut ud) w (record { held = h.count; at = h.at; output = u.count; out = u.at; crossed = false; fixes = w.fixes })
            (edits xv₁ xt₁ xd₁) (edits uv₁ ut₁ ud₁) fk fv ft fd fk fv ft fd
        nothing_taken mode k n =
            let i : a ≡ length (seen t I) = long_i in
            let o : b ≡ length (seen t O) = long_o in
            let y : crosses (seen t I) (seen t O) ≡ false = none_crosses (seen t I) (seen t O) (omega (arith, n, i, o)) in
            let v : (round_at mode I O t).fixes ≡ [] = none_fixes mode I O t y in
            let rs : rows_in k (round_at mode I O t) ≡ [] = none_rows k (round_at mode I O t) v in
            record {
              crossed_is = sym y ∙ crossed_is mode I O t;
              listed = record {
                large_is = sym (ap (rows_too_large most w.fixes) rs ∙ not_large w.fixes x.staged.fits);
                fixes_are = λ l. (let z : length (rows_in k (round_at mode I O t)) ≡ 0 = ap length rs in omega (arith, z));
                rows_are = λ l. sym (ap (λ l. listed fk fv ft fd w.fixes ++ l) rs ∙ append-nil (listed fk fv ft fd w.fixes));
              };
              held_is = g.held_is;
              ahead_is = g.ahead_is;
              output_is = f.held_is ∙ sym (ap (λ c. O ++ dated t c) v ∙ dated_none t O);
              out_is = f.ahead_is;
              staged = stands U₁ u.count w.fixes false output_few output_mass x.staged.fits;
            }

        -- ---- what is seen
        pub fix_asks : {cv₂ : List ℕ} → length cv₂ ≡ length cv → length iv₃ ≡ length iv → length id₃ ≡ length id → length ov₃ ≡ length ov → length od₃ ≡ length od
            → Fixes most (take (a - 0) iv₃) (take (a - 0) id₃) (take (b - 0) ov₃) (take (b - 0) od₃) cv₂ cd fk fv ft fd w.fixes
        fix_asks {cv₂} lc li ld lo lp =
            let i : a ≤ most + most = few_i in
            let o : b ≤ most + most = few_o in
            let y : most + most ≤ 8192 = twice_few in
            let liv : length iv₃ ≡ most + most = li ∙ x.sums.long_iv in
            let lid : length id₃ ≡ most + most = ld ∙ x.sums.long_id in
            let lov : length ov₃ ≡ most + most = lo ∙ x.sums.long_ov in
            let lod : length od₃ ≡ most + most = lp ∙ x.sums.long_od in
            let lcv : length cv₂ ≡ (most + most) + (most + most) = lc ∙ x.sums.long_cv in
            let tiv : length (take (a - 0) iv₃) ≡ a - 0 = length-take-le (a - 0) iv₃ (omega (arith, i, liv)) in
            let tid : length (take (a - 0) id₃) ≡ a - 0 = length-take-le (a - 0) id₃ (omega (arith, i, lid)) in
            let tov : length (take (b - 0) ov₃) ≡ b - 0 = length-take-le (b - 0) ov₃ (omega (arith, o, lov)) in
            let tod : length (take (b - 0) od₃) ≡ b - 0 = length-take-le (b - 0) od₃ (omega (arith, o, lod)) in
            let mi = input_mass in
            let mo = output_mass in
            let z : w.fixes ≤ 4096 = fixes_few in
            let hi : mass nat_abs (take h.count X₁) ≤ 8192 * 2 ^ 31 = omega (arith, mi) in
            let ho : mass nat_abs (take u.count U₁) ≤ 8192 * 2 ^ 31 = omega (arith, mo, z) in
            record {
              segment = record {
                ready = record {
                  same_i = tid ∙ sym tiv;
                  same_o = tod ∙ sym tov;
                  same_c = x.sums.long_cd ∙ sym lcv;
                  room = omega (arith, tiv, tov, i, o, lcv);
                  canon_i = subst (Canon ltb) (sym (held_entries seen_input)) (canon_seen t I);
                  canon_o = subst (Canon ltb) (sym (held_entries seen_output)) (canon_seen t O);
                  small_o = subst (All modest) (sym (held_diffs seen_output)) (seen-modest t O (subst (λ (es : List Edit). mass nat_abs es ≤ 8192 * 2 ^ 31) f.held_is ho));
                };
                short = omega (arith, tid, i, y);
                small_i = subst (All modest) (sym (held_diffs seen_input)) (seen-modest t I (subst (λ (es : List Edit). mass nat_abs es ≤ 8192 * 2 ^ 31) g.held_is hi));
              };
              lent = x.lent;
              fits = x.staged.fits;
              few = x.room_few;
            }

        -- ---- the correction
        module _ (n : a + b ≡ 0 → ⊥) (mode k : ℕ) where
          abbrev C : Sums
          C = correction mode (seen t I) (seen t O)

          given : correction mode (entries (take (a - 0) iv₃) (take (a - 0) id₃)) (entries (take (b - 0) ov₃) (take (b - 0) od₃))
              ≡ correction mode (seen t (input_now t m e (edits xv xt xd) w)) (seen t (output_now t m (edits sv st sd) (edits uv ut ud) w))
          given = λ z. correction mode (held_entries seen_input z) (held_entries seen_output z)

          crossing : crosses (seen t I) (seen t O) ≡ true
          crossing =
              let i : a ≡ length (seen t I) = long_i in
              let o : b ≡ length (seen t O) = long_o in
              some_crosses (seen t I) (seen t O) (λ z. n (omega (arith, z, i, o)))

          rows_are : fix_rows k t C ≡ rows_in k (round_at mode I O t)
          rows_are = fix-rows k mode I O t crossing

          pub over_taken : {cv₂ cv₃ : List ℕ} {cd₃ : List ℤ} → OverAt most k t (correction mode (entries (take (a - 0) iv₃) (take (a - 0) id₃)) (entries (take (b - 0) ov₃) (take (b - 0) od₃))) cv₂ cd w.fixes cv₃ cd₃
              → TurnOver most mode k t m e (edits sv st sd) (edits xv xt xd) (edits uv ut ud) w (edits xv₁ xt₁ xd₁)
          over_taken o = record {
            large_is = sym (ap (λ c. rows_too_large most w.fixes (fix_rows k t c)) given ∙ ap (rows_too_large most w.fixes) rows_are) ∙ o.large_is;
            crosses = sym (crossed_is mode I O t) ∙ crossing;
            held_is = (h.count, g.held_is);
            ahead_is = (h.at, g.ahead_is);
            out_is = (u.at, f.ahead_is);
          }

          module _ {cv₂ cv₃ : List ℕ} {cd₃ : List ℤ} {r : Fixed} {fk₃ fv₃ ft₃ : List ℕ} {fd₃ : List ℤ}
              (F : FixedAt most k t (correction mode (entries (take (a - 0) iv₃) (take (a - 0) id₃)) (entries (take (b - 0) ov₃) (take (b - 0) od₃))) cv₂ cd w.fixes r cv₃ cd₃ fk fv ft fd fk₃ fv₃ ft₃ fd₃) where
            fixed : FixedAt most k t (correction mode (seen t (input_now t m e (edits xv xt xd) w)) (seen t (output_now t m (edits sv st sd) (edits uv ut ud) w))) cv₂ cd w.fixes r cv₃ cd₃ fk fv ft fd fk₃ fv₃ ft₃ fd₃
            fixed = subst (λ (c : Sums). FixedAt most k t c cv₂ cd w.fixes r cv₃ cd₃ fk fv ft fd fk₃ fv₃ ft₃ fd₃) given F

            count_is : r.count ≡ length C
            count_is = end_is fixed.corrected

            small : rows_too_large most w.fixes (fix_rows k t C) ≡ false
            small = sym fixed.listed.large_is

            room_left : w.fixes + length C ≤ most
            room_left = fixes_fit most w.fixes k t C small

            pub date_asks : length cv₃ ≡ length cv → length cd₃ ≡ length cd → Dates (take (r.count - 0) cv₃) (take (r.count - 0) cd₃) uv₁ ut₁ ud₁ u.count
            date_asks lc ld =
                let j : r.count ≡ length C = count_is in
                let z : w.fixes + length C ≤ most = room_left in
                let lcv : length cv₃ ≡ (most + most) + (most + most) = lc ∙ x.sums.long_cv in
                let lcd : length cd₃ ≡ (most + most) + (most + most) = ld ∙ x.sums.long_cd in
                let tcv : length (take (r.count - 0) cv₃) ≡ r.count - 0 = length-take-le (r.count - 0) cv₃ (omega (arith, j, z, lcv)) in
                let tcd : length (take (r.count - 0) cd₃) ≡ r.count - 0 = length-take-le (r.count - 0) cd₃ (omega (arith, j, z, lcd)) in
                let v : length uv₁ ≡ most + most = luv ∙ x.long_uv in
                let i : u.count + (length S - u.at) ≤ most + w.fixes = output_few in
                record {
                  same_c = tcd ∙ sym tcv;
                  same_t = lut ∙ x.long_ut ∙ sym v;
                  same_d = lud ∙ x.long_ud ∙ sym v;
                  room = omega (arith, tcv, j, z, v, i);
                }

            pub fixed_taken : (uv₃ ut₃ : List ℕ) (ud₃ : List ℤ) {j : ℕ} → Rows uv₁ ut₁ ud₁ u.count (dated t (entries (take (r.count - 0) cv₃) (take (r.count - 0) cd₃))) uv₃ ut₃ ud₃ j
                → TurnTaken most mode k t m e (edits sv st sd) (edits xv xt xd) (edits uv ut ud) w (record { held = h.count; at = h.at; output = j; out = u.at; crossed = true; fixes = r.fixes })
                (edits xv₁ xt₁ xd₁) (edits uv₃ ut₃ ud₃) fk fv ft fd fk₃ fv₃ ft₃ fd₃
            fixed_taken uv₃ ut₃ ud₃ {j} d₀ =
                let d : Rows uv₁ ut₁ ud₁ u.count (dated t C) uv₃ ut₃ ud₃ j = subst (λ (c : Sums). Rows uv₁ ut₁ ud₁ u.count (dated t c) uv₃ ut₃ ud₃ j) (held_entries fixed.corrected) d₀ in
                let v : length uv₁ ≡ most + most = luv ∙ x.long_uv in
                let o : take j (edits uv₃ ut₃ ud₃) ≡ take u.count U₁ ++ dated t C = rows_front (lut ∙ x.long_ut ∙ sym v) (lud ∙ x.long_ud ∙ sym v) d in
                let je : j ≡ u.count + length (map value_of (dated t C)) = d.values.end in
                let jm : length (map value_of (dated t C)) ≡ length (dated t C) = length-map (dated t C) value_of in
                let jl : length (dated t C) ≡ length C = dated-length t C in
                let nf : r.fixes ≡ w.fixes + length (fix_rows k t C) = fixed.listed.fixes_are refl in
                let nl : length (fix_rows k t C) ≡ length C = rows-length k t C in
                let z : w.fixes + length C ≤ most = room_left in
                let i : u.count + (length S - u.at) ≤ most + w.fixes = output_few in
                let mo : mass nat_abs (take u.count U₁) + mass nat_abs (drop u.at S) ≤ (4096 + w.fixes) * 2 ^ 31 = output_mass in
                let md : mass nat_abs (dated t C) ≤ length C * 2 ^ 31 = dated-mass most k t w.fixes C small in
                let ma : mass nat_abs (take j (edits uv₃ ut₃ ud₃)) ≡ mass nat_abs (take u.count U₁) + mass nat_abs (dated t C) = ap (mass nat_abs) o ∙ mass-append nat_abs (take u.count U₁) (dated t C) in
                record {
                  crossed_is = sym crossing ∙ crossed_is mode I O t;
                  listed = record {
                    large_is = fixed.listed.large_is ∙ ap (rows_too_large most w.fixes) rows_are;
                    fixes_are = λ y. fixed.listed.fixes_are refl ∙ ap (λ rs. w.fixes + length rs) rows_are;
                    rows_are = λ y. fixed.listed.rows_are refl ∙ ap (λ rs. listed fk fv ft fd w.fixes ++ rs) rows_are;
                  };
                  held_is = g.held_is;
                  ahead_is = g.ahead_is;
                  output_is = o ∙ ap (λ es. es ++ dated t C) f.held_is ∙ ap (λ c. O ++ dated t c) (fixes_are mode I O t crossing);
                  out_is = f.ahead_is;
                  staged = stands (edits uv₃ ut₃ ud₃) j r.fixes true (omega (arith, je, jm, jl, nf, nl, i)) (omega (arith, ma, md, mo, nf, nl)) (omega (arith, nf, nl, z));
                }
