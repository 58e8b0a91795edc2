-- The answer of a call that works, once its input is formed: what each of its parts asks, and that it is the rules'.
--
-- works_writes: such a call writes. tells-same, answered-same: so result memory may be scratch before it does
-- answered-mode: the number of a call that works is that of the mode that it names
-- answering_again: memory of the same lengths serves again. answering_few: a call of few records asks less
-- keys_asked: what the changed keys ask. keys_are: what they are. lent-work, loops: what the windows ask
-- concludes: what the answer asks once they are done. answers-call: it is that of any request whose runs these are
use Prim.Native.Nat.{ℕ, suc, ◌+◌, ◌≤◌, min}
use native.Mathlib.Omega.{arith}
use mathlib.Core.List.{List, [], ◌∷◌, ◌++◌}
use mathlib.Core.Path.{◌≡◌, refl, sym, ◌∙◌, ap, subst}
use mathlib.Core.Bool.{true, false, ◌&&◌, ◌||◌}
use lib.Dec.{leb, eqb}
use lib.IntN.{ℤ, pos}
use lib.ListN.{length, take, length-append}
use Rattle.grid.specs.Records.{Row, rows, pairs, most_records}
use Rattle.grid.specs.Slices.{Laid}
use Rattle.grid.specs.Times.{puts}
use Rattle.grid.proofs.Tests.{by-test, and_l}
use Rattle.grid.proofs.Operations.{put-length}
use Rattle.grid.proofs.Ascending.{ascending_puts}
use Rattle.grid.proofs.Slices.{laid_front, laid-length}
use Rattle.rules.specs.Call.{Request, check11, work_all, too_many, too_large, refused, worked, call}
use Rattle.rules.specs.Discover.{most_moments}
use Rattle.rules.specs.Memory.{numbers, diffs, leaves}
use Rattle.rules.proofs.Statuses.{Works, fixes_found, verdict_none}
use Rattle.keys.specs.Changed.{LentKeys}
use Rattle.answers.specs.Tells.{Tells, Concludes, concluded}
use Rattle.answers.specs.declared.Course.{Course}
use Rattle.answers.specs.declared.Outcome.{Outcome}
use Rattle.turns.specs.Runs.{Runs, Asked}
use Rattle.turns.specs.Worked.{LentWork}
use Rattle.looping.specs.Looped.{Looped, Loops, Ended}
use Rattle.concluding.specs.Answered.{Answering, Answered, Few}
use Rattle.concluding.proofs.Concluding.{looped_call}

puts-length : (ts us : List ℕ) → length (puts ts us) ≤ length ts + length us
puts-length [] us = omega arith
puts-length (t ∷ ts) us = omega (arith, put-length t (puts ts us), puts-length ts us)

-- ---- a call that works writes
pub works_writes : (q : Request) → Works q → (leb 11 (call q).status && leb (call q).status 17) ≡ false
unfolding call worked refused
works_writes q W =
    rw ((verdict_none q).1 W)
    (by-test (too_many (work_all q)) (λ e. rw e) (λ e. by-test (too_large (fixes_found q)) (λ f. rw (e, f)) (λ f. rw (e, f))))

leaves-same : {A : Type 0} (z : A) (status : ℕ) (s s' xs : List A) → (leb 11 status && leb status 17) ≡ false → length s' ≡ length s → leaves z status s' xs ≡ leaves z status s xs
unfolding leaves
leaves-same z status s s' xs e h = rw (e, h)

pub tells-same :
    {q : Request} {r : Outcome} {res s res' : List ℕ} {rd d rd' : List ℤ}
    → Works q → length s ≡ length res → length d ≡ length rd → Tells (call q) r s res' d rd' → Tells (call q) r res res' rd rd'
tells-same {q} {res = res} {s = s} {rd = rd} {d = d} W h k t = record {
  status_is = t.status_is;
  crossings_are = t.crossings_are;
  tiles-many = t.tiles-many;
  fixes-many = t.fixes-many;
  pending_many = t.pending_many;
  frontier_many = t.frontier_many;
  told = record {
    numbers_are = t.told.numbers_are ∙ leaves-same 0 (call q).status res s (numbers (call q)) (works_writes q W) h;
    diffs_are = t.told.diffs_are ∙ leaves-same (pos 0) (call q).status rd d (diffs (call q)) (works_writes q W) k;
  };
}

pub answered-same :
    {R : Runs} {mode width : ℕ} {lower held : List ℕ} {r : Outcome} {res s res' : List ℕ} {rd d rd' : List ℤ}
    → length s ≡ length res → length d ≡ length rd → Answered R mode width lower held r s res' d rd' → Answered R mode width lower held r res res' rd rd'
answered-same {s = s} {d = d} h k A = record { answers = λ q W B f g. tells-same {s = s} {d = d} W h k (A.answers q W B f g) }

-- ---- the mode that its number names
mode_works : (q : Request) → Works q → (eqb q.mode 1 || eqb q.mode 2) ≡ true
unfolding check11
mode_works q W = and_l _ _ (and_l _ _ (and_l _ _ (and_l _ _ (and_l _ _ (and_l _ _ W.accepted.holds_11)))))

pub answered-mode :
    {R : Runs} {named mode width : ℕ} {lower held : List ℕ} {r : Outcome} {res res' : List ℕ} {rd rd' : List ℤ}
    → ((eqb mode 1 || eqb mode 2) ≡ true → named ≡ mode) → Answered R named width lower held r res res' rd rd' → Answered R mode width lower held r res res' rd rd'
answered-mode {R} {named} {mode} {width} n A = record {
  answers = λ q W B f g.
      let e : named ≡ mode = n (subst (λ (m : ℕ). (eqb m 1 || eqb m 2) ≡ true) B.mode_is (mode_works q W)) in
      A.answers q W (subst (λ (m : ℕ). Asked q m width R (puts (R.new_keys ++ R.pending_keys) [])) (sym e) B) f g;
}

module _ {most : ℕ} {R : Runs} {width : ℕ} {lower held moments res : List ℕ} {rd : List ℤ} (A : Answering most R width lower held moments res rd) where
  abbrev found : List ℕ
  found = puts (R.new_keys ++ R.pending_keys) []

  found_few : length found ≤ most + most
  found_few = omega (arith, puts-length (R.new_keys ++ R.pending_keys) [], length-append R.new_keys R.pending_keys, A.good.new_few, A.good.pending_few)

  -- ---- other memory, fewer records
  pub answering_again : {moments' res' : List ℕ} {rd' : List ℤ} → length moments' ≡ length moments → length res' ≡ length res → length rd' ≡ length rd → Answering most R width lower held moments' res' rd'
  answering_again a b c = record {
    good = A.good;
    room_few = A.room_few;
    wide = A.wide;
    narrow = A.narrow;
    few_lower = A.few_lower;
    few_upper = A.few_upper;
    few_held = A.few_held;
    room_moments = rw a A.room_moments;
    wide_numbers = rw b A.wide_numbers;
    wide_diffs = rw c A.wide_diffs;
  }

  pub answering_few : Few (length R.new_keys) (length R.pending_keys) (length R.in_keys) (length R.out_keys) → Answering 64 R width lower held moments res rd
  answering_few f =
      let g = A.good in
      record {
        good = record {
          new_level = g.new_level;
          new_few = f.few_new;
          new_ascends = g.new_ascends;
          pending_level = g.pending_level;
          pending_few = f.few_pending;
          pending_ascends = g.pending_ascends;
          in_level = g.in_level;
          in_few = f.few_input;
          in_ranked = g.in_ranked;
          in_modest = g.in_modest;
          out_level = g.out_level;
          out_few = f.few_out;
          out_ranked = g.out_ranked;
          out_modest = g.out_modest;
        };
        room_few = omega arith;
        wide = A.wide;
        narrow = A.narrow;
        few_lower = A.few_lower;
        few_upper = A.few_upper;
        few_held = A.few_held;
        room_moments = A.room_moments;
        wide_numbers = A.wide_numbers;
        wide_diffs = A.wide_diffs;
      }

  -- ---- the changed keys
  pub keys_asked : {keys : List ℕ} → length keys ≡ most + most → LentKeys R.new_keys R.pending_keys keys
  keys_asked h = record { new_ascends = A.good.new_ascends; pending_ascends = A.good.pending_ascends; room = omega (arith, A.good.new_few, A.good.pending_few) }

  module _ {keys keys' : List ℕ} {n : ℕ} (h : length keys ≡ most + most) (L : Laid found keys keys' n) where
    pub keys_many : n ≤ length keys'
    keys_many = let f = found_few in let e : length keys' ≡ length keys = ap length L.holds ∙ laid-length found keys in omega (arith, L.counted)

    pub keys_are : take n keys' ≡ found
    keys_are = let f = found_few in laid_front L (omega arith)

    pub loops : Loops most R width (take n keys')
    loops = record {
      good = A.good;
      room_few = A.room_few;
      wide = A.wide;
      narrow = A.narrow;
      ascends = rw keys_are (ascending_puts (R.new_keys ++ R.pending_keys) [] refl);
      few = rw keys_are (omega (arith, found_few, A.room_few));
    }

    -- ---- the windows
    pub lent-work :
        {uv ut : List ℕ} {ud : List ℤ} {iv : List ℕ} {id : List ℤ} {ov : List ℕ} {od cd : List ℤ} {wv seeds output tracked nk nt fk fv ft : List ℕ} {fd : List ℤ}
        → length uv ≡ most + most → length ut ≡ most + most → length ud ≡ most + most
        → length iv ≡ most + most → length id ≡ most + most → length ov ≡ most + most → length od ≡ most + most → length cd ≡ (most + most) + (most + most)
        → most + most ≤ length wv → length seeds ≡ most → length output ≡ most → length tracked ≡ most + suc most_moments → length tracked ≤ length wv
        → length nk ≡ most → length nt ≡ most → length fk ≡ most → length fv ≡ most → length ft ≡ most → length fd ≡ most
        → LentWork most (min width (length (take n keys'))) moments uv ut ud iv id ov od cd wv seeds output tracked nk nt fk fv ft fd res
    lent-work u1 u2 u3 a b c d e f g i j k nl nm l m p q = record {
      moments_room = rw keys_are A.room_moments;
      wide = record {
        long_uv = u1;
        long_ut = u2;
        long_ud = u3;
        long_iv = a;
        long_id = b;
        long_ov = c;
        long_od = d;
        long_cd = e;
        room_few = A.room_few;
        room_res = omega (arith, A.wide_numbers);
      };
      room_wv = f;
      long_seeds = g;
      long_output = i;
      long_tracked = j;
      for_tracked = k;
      long_nk = nl;
      long_nt = nm;
      lent = record { long_k = l; long_v = m; long_t = p; long_d = q };
    }

  -- ---- the answer
  module _ {mode : ℕ} {keys nk nt fk fv ft : List ℕ} {fd : List ℤ} {c : Course} (E : Ended most R mode width keys nk nt fk fv ft fd c) where
    pub concludes :
        {out places work s : List ℕ} {w : ℕ} → length nk ≡ most → length nt ≡ most → length fk ≡ most → length fv ≡ most → length ft ≡ most → length fd ≡ most
        → length out ≡ most + most → length places ≡ most + most → length work ≡ w → most ≤ w → length s ≡ length res
        → Concludes (length fk) c lower R.upper held fk fv ft fd nk nt out places work s rd
    concludes a b d e f g h i j m k = record {
      few_fixes = λ o l. rw d (E.few_fixes o l);
      few_pended = λ _. rw d E.few_pended;
      room_few = rw d A.room_few;
      room_keys = omega arith;
      room_values = omega arith;
      room_times = omega arith;
      room_diffs = omega arith;
      room_pendkeys = omega arith;
      room_pendtimes = omega arith;
      few_lower = A.few_lower;
      few_upper = A.few_upper;
      few_held = A.few_held;
      room_out = omega arith;
      room_places = omega arith;
      room_work = omega arith;
      wide_numbers = omega (arith, A.wide_numbers);
      wide_diffs = A.wide_diffs;
    }

    abbrev corrections : List Row
    corrections = rows (take c.fixes fk) (take c.fixes fv) (take c.fixes ft) (take c.fixes fd)

    abbrev next : List (ℕ × ℕ)
    next = pairs (take c.pended nk) (take c.pended nt)

    -- full: what the windows gave with this memory is what they give with full memory
    pub answers-call :
        {r : Outcome} {s res' : List ℕ} {rd' : List ℤ} → ((q : Request) → Looped most q c corrections next → Looped most_records q c corrections next) → keys ≡ found → length s ≡ length res
        → Tells (concluded c lower R.upper held corrections next) r s res' rd rd' → Answered R mode width lower held r res res' rd rd'
    answers-call {s = s} full K h T = record {
      answers = λ q W B f g. let L = full q (E.looped q (rw K B)) in
          let e : concluded c q.lower q.upper q.held corrections next ≡ concluded c lower R.upper held corrections next = λ i. concluded c (f i) (B.upper_is i) (g i) corrections next in
          tells-same {s = s} {d = rd} W h refl (rw (← looped_call W L, e) T);
    }
