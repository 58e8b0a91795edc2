-- A key, loaded and replayed.
--
-- idle_settled: a key without moments. load_asks: what loading a key asks. load_bounds, rounds_ask: what its rounds ask then. key_returns: what they leave
use Prim.Native.Nat.{ℕ, ◌+◌, ◌-◌, ◌*◌, ◌^◌, ◌<◌, ◌≤◌}
use native.Mathlib.Omega.{arith}
use mathlib.Core.Bool.{false}
use mathlib.Core.Path.{◌≡◌, refl, sym, ◌∙◌, ap, subst}
use mathlib.Core.List.{List, [], ◌∷◌}
use lib.Dec.{ltb}
use lib.IntN.{ℤ, nat_abs}
use lib.ListN.{length, take}
use lib.Seq.{length-take-le}
use borrow.Author.Tests.{ltb-true, ltb-false}
use Rattle.std.specs.Prelude.{Result, Ok, Err, MatchResult}
use Rattle.fixing.specs.declared.TooLarge.{TooLarge}
use Rattle.grid.specs.Lists.{flat}
use Rattle.grid.proofs.Tests.{by-test}
use Rattle.grid.proofs.Operations.{no_length}
use Rattle.grid.proofs.Sizes.{mass}
use Rattle.rules.specs.Histories.{Edit}
use Rattle.rules.specs.Retire.{Round, settle}
use Rattle.moments.specs.Present.{edits}
use Rattle.moments.proofs.Columns.{edits_long, front_edits}
use Rattle.slots.specs.Slots.{rows_in, crossed_in, rows_too_large}
use Rattle.marks.specs.Marks.{marked}
use Rattle.fixing.specs.Settle.{Listed, KeySettled, KeyOver}
use Rattle.fixing.specs.Windows.{LentRounds}
use Rattle.fixing.proofs.Left.{left_start, left_end, left_marks}
use Rattle.gather.specs.Meets.{meet_of}
use Rattle.gather.specs.Loads.{Timely, LoadsKey, LoadedKey}
use Rattle.gather.specs.declared.Loaded.{Loaded}
use Rattle.gather.proofs.Under.{meet-under}
use Rattle.replay.specs.Replay.{RoundsAsk}
use Rattle.replaying.specs.Keyed.{KeyAsks}
use Rattle.replay.proofs.Turning.{start_rounds}

no_rounds : (mode : ℕ) (I O : List Edit) (ts : List ℕ) → length ts ≡ 0 → settle mode I O ts ≡ []
unfolding settle
no_rounds mode I O [] e = refl
no_rounds mode I O (t ∷ ts) e = no_length (length ts) e

positive : (n : ℕ) → (n ≡ 0 → ⊥) → 0 < n
positive n f = by-test (ltb 0 n) (λ e. ltb-true 0 n e) (λ e. absurd (f (let h : n ≤ 0 = ltb-false 0 n e in omega arith)))

module _ {most : ℕ} {moments vs ts : List ℕ} {ds : List ℤ} {ovs ots : List ℕ} {ods : List ℤ} {far xv xt : List ℕ} {xd : List ℤ} {sv st : List ℕ} {sd : List ℤ} (a : KeyAsks most moments vs ts ds ovs ots ods far xv xt xd sv st sd)
    {uv ut : List ℕ} {ud : List ℤ} {iv : List ℕ} {id : List ℤ} {ov : List ℕ} {od : List ℤ} {cv : List ℕ} {cd : List ℤ} {marks fk fv ft : List ℕ} {fd : List ℤ} {n : ℕ} (m : LentRounds most uv ut ud iv id ov od cv cd marks fk fv ft fd n) where
  pub idle_settled : (mode k : ℕ) → length moments ≡ 0
      → KeySettled most mode k (edits vs ts ds) (edits ovs ots ods) moments n n marks marks fk fv ft fd fk fv ft fd
  idle_settled mode k e =
      let q : settle mode (edits vs ts ds) (edits ovs ots ods) moments ≡ [] = no_rounds mode (edits vs ts ds) (edits ovs ots ods) moments e in
      record { listed = left_end {j = 0} {marks₀ = marks} {marks = marks} (left_start m.fits) q; marks_are = left_marks {k = k} {n = n} {r = n} {fk₀ = fk} {fv₀ = fv} {ft₀ = ft} {fd₀ = fd} {fk = fk} {fv = fv} {ft = ft} {fd = fd} (left_start m.fits) q }

  pub load_asks : (length moments ≡ 0 → ⊥) → LoadsKey moments vs ts ds ovs ots ods far xv xt xd sv st sd iv ov
  load_asks e =
      let f : length moments ≤ 1024 = a.few in
      let lf : length far ≡ 1024 = a.long_far in
      let lx : length xv ≡ 8192 = a.long_xv in
      let ls : length sv ≡ 4096 = a.long_sv in
      let li : length iv ≡ most + most = m.sums.long_iv in
      let lo : length ov ≡ most + most = m.sums.long_ov in
      let nv : length vs ≤ most + most = a.input_few in
      let no : length ovs ≤ most = a.output_few in
      let nm : most ≤ 4096 = m.room_few in
      let wi = a.input_light in
      let wo : mass nat_abs (edits ovs ots ods) ≤ 4096 * 2 ^ 31 = a.output_light in
      record {
        some_moment = positive (length moments) e;
        room_far = omega (arith, f, lf);
        same_t = a.same_t;
        same_d = a.same_d;
        light = omega (arith, wi);
        same_ot = a.same_ot;
        same_od = a.same_od;
        out_light = omega (arith, wo);
        same_xt = a.long_xt ∙ sym lx;
        same_xd = a.long_xd ∙ sym lx;
        room_x = omega (arith, nv, nm, lx);
        same_st = a.long_st ∙ sym ls;
        same_sd = a.long_sd ∙ sym ls;
        room_s = omega (arith, no, nm, ls);
        room_j = omega (arith, nv, li);
        room_p = omega (arith, nv, lo);
        out_j = omega (arith, no, li);
        out_p = omega (arith, no, lo);
      }

  module _ {far₁ : List ℕ} (xv₁ xt₁ : List ℕ) (xd₁ : List ℤ) (sv₁ st₁ : List ℕ) (sd₁ : List ℤ) {r : Loaded}
      (d : LoadedKey moments (edits vs ts ds) (edits ovs ots ods) far₁ (edits xv₁ xt₁ xd₁) (edits sv₁ st₁ sd₁) r)
      (lsv : length sv₁ ≡ length sv) (lst : length st₁ ≡ length st) (lsd : length sd₁ ≡ length sd) where
    output_few : r.output ≤ most
    output_few =
        let c : r.output ≤ length (edits ovs ots ods) = d.output_few in
        let l : length (edits ovs ots ods) ≡ length ovs = edits_long ovs ots ods a.same_ot a.same_od in
        let n : length ovs ≤ most = a.output_few in
        omega (arith, c, l, n)

    pub load_bounds : (r.output ≤ length sv₁) × ((r.output ≤ length st₁) × (r.output ≤ length sd₁))
    load_bounds =
        let c : r.output ≤ most = output_few in
        let n : most ≤ 4096 = m.room_few in
        let v : length sv₁ ≡ 4096 = lsv ∙ a.long_sv in
        let t : length st₁ ≡ 4096 = lst ∙ a.long_st in
        let z : length sd₁ ≡ 4096 = lsd ∙ a.long_sd in
        (omega (arith, c, n, v), (omega (arith, c, n, t), omega (arith, c, n, z)))

    loaded_is : edits (take (r.output - 0) sv₁) (take (r.output - 0) st₁) (take (r.output - 0) sd₁) ≡ take r.output (edits sv₁ st₁ sd₁)
    loaded_is = front_edits r.output sv₁ st₁ sd₁

    pub rounds_ask : {iv₁ ov₁ : List ℕ} → length far₁ ≡ length far → length xv₁ ≡ length xv → length xt₁ ≡ length xt → length xd₁ ≡ length xd → length iv₁ ≡ length iv → length ov₁ ≡ length ov
        → RoundsAsk most moments far₁ r.input (take (r.output - 0) sv₁) (take (r.output - 0) st₁) (take (r.output - 0) sd₁) xv₁ xt₁ xd₁ uv ut ud iv₁ id ov₁ od cv cd marks fk fv ft fd n
    rounds_ask lf lxv lxt lxd li lo =
        let c : r.output ≤ most = output_few in
        let b = load_bounds in
        let f : length moments ≤ 1024 = a.few in
        let f₁ : length far₁ ≡ 1024 = lf ∙ a.long_far in
        let tv : length (take (r.output - 0) sv₁) ≡ r.output - 0 = length-take-le (r.output - 0) sv₁ (let z : r.output ≤ length sv₁ = b.0 in omega (arith, z)) in
        let tt : length (take (r.output - 0) st₁) ≡ r.output - 0 = length-take-le (r.output - 0) st₁ (let z : r.output ≤ length st₁ = b.1.0 in omega (arith, z)) in
        let td : length (take (r.output - 0) sd₁) ≡ r.output - 0 = length-take-le (r.output - 0) sd₁ (let z : r.output ≤ length sd₁ = b.1.1 in omega (arith, z)) in
        let i : r.input ≤ length (edits vs ts ds) = d.input_few in
        let il : length (edits vs ts ds) ≡ length vs = edits_long vs ts ds a.same_t a.same_d in
        let iv : length vs ≤ most + most = a.input_few in
        let mi = d.input_light in
        let ni = a.input_light in
        let mo : mass nat_abs (take r.output (edits sv₁ st₁ sd₁)) ≤ 4096 * 2 ^ 31 = (let p = d.output_light in let q : mass nat_abs (edits ovs ots ods) ≤ 4096 * 2 ^ 31 = a.output_light in omega (arith, p, q)) in
        record {
          few = f;
          room_far = omega (arith, f, f₁);
          meets_are = d.meets_are;
          same_st = tt ∙ sym tv;
          same_sd = td ∙ sym tv;
          output_few = omega (arith, tv, c);
          output_timely = subst Timely (sym loaded_is) d.output_timely;
          output_light = subst (λ (es : List Edit). mass nat_abs es ≤ 4096 * 2 ^ 31) (sym loaded_is) mo;
          long_xv = lxv ∙ a.long_xv;
          long_xt = lxt ∙ a.long_xt;
          long_xd = lxd ∙ a.long_xd;
          input_few = omega (arith, i, il, iv);
          input_timely = d.input_timely;
          input_light = omega (arith, mi, ni);
          memory = record {
            long_uv = m.long_uv;
            long_ut = m.long_ut;
            long_ud = m.long_ud;
            sums = record { long_iv = li ∙ m.sums.long_iv; long_ov = lo ∙ m.sums.long_ov; long_id = m.sums.long_id; long_od = m.sums.long_od; long_cv = m.sums.long_cv; long_cd = m.sums.long_cd };
            long_marks = m.long_marks;
            lent = m.lent;
            fits = m.fits;
            room_few = m.room_few;
          };
        }

    rounds_are : (mode : ℕ)
        → settle mode (take r.input (edits xv₁ xt₁ xd₁)) (edits (take (r.output - 0) sv₁) (take (r.output - 0) st₁) (take (r.output - 0) sd₁)) moments ≡ settle mode (edits vs ts ds) (edits ovs ots ods) moments
    rounds_are mode =
        (λ z. settle mode (d.input_is z) ((loaded_is ∙ d.output_is) z) moments)
        ∙ start_rounds mode (meet_of moments) (edits vs ts ds) (edits ovs ots ods) moments (meet-under moments)

    key_settled : {mode k q : ℕ} {marks' fk' fv' ft' : List ℕ} {fd' : List ℤ}
        → KeySettled most mode k (take r.input (edits xv₁ xt₁ xd₁)) (edits (take (r.output - 0) sv₁) (take (r.output - 0) st₁) (take (r.output - 0) sd₁)) moments n q marks marks' fk fv ft fd fk' fv' ft' fd'
        → KeySettled most mode k (edits vs ts ds) (edits ovs ots ods) moments n q marks marks' fk fv ft fd fk' fv' ft' fd'
    key_settled {mode} {k} {q} {marks'} {fk'} {fv'} {ft'} {fd'} s = record {
      listed = subst (λ (rs : List Round). Listed most (flat (rows_in k) rs) n false q fk fv ft fd fk' fv' ft' fd') (rounds_are mode) s.listed;
      marks_are = s.marks_are ∙ ap (λ rs. marked (crossed_in rs) marks) (rounds_are mode);
    }

    key_over : (mode k : ℕ) → KeyOver most mode k (take r.input (edits xv₁ xt₁ xd₁)) (edits (take (r.output - 0) sv₁) (take (r.output - 0) st₁) (take (r.output - 0) sd₁)) moments n
        → KeyOver most mode k (edits vs ts ds) (edits ovs ots ods) moments n
    key_over mode k o = sym (ap (λ rs. rows_too_large most n (flat (rows_in k) rs)) (rounds_are mode)) ∙ o

    pub key_returns : (mode k : ℕ) (marks' fk' fv' ft' : List ℕ) (fd' : List ℤ) (q : Result ℕ TooLarge)
        → MatchResult q (λ q. KeySettled most mode k (take r.input (edits xv₁ xt₁ xd₁)) (edits (take (r.output - 0) sv₁) (take (r.output - 0) st₁) (take (r.output - 0) sd₁)) moments n q marks marks' fk fv ft fd fk' fv' ft' fd')
        (λ _. KeyOver most mode k (take r.input (edits xv₁ xt₁ xd₁)) (edits (take (r.output - 0) sv₁) (take (r.output - 0) st₁) (take (r.output - 0) sd₁)) moments n)
        → MatchResult q (λ q. KeySettled most mode k (edits vs ts ds) (edits ovs ots ods) moments n q marks marks' fk fv ft fd fk' fv' ft' fd') (λ _. KeyOver most mode k (edits vs ts ds) (edits ovs ots ods) moments n)
    key_returns mode k marks' fk' fv' ft' fd' (Ok q) s = key_settled s
    key_returns mode k marks' fk' fv' ft' fd' (Err e) s = key_over mode k s
