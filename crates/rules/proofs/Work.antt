-- One key's work in a call: rightness of one key, over the records of a request.
--
-- edits-append: a key's edits of two runs. edits-together: the same is seen of both together. times-edits: the times of its edits
-- pending_ascends: its pending times ascend (check 15)
-- done: the work on one key. done_output: the key's old output with its corrections
-- done_settled, done_right: what is right afterwards, at live times. done_right_short: at times short of upper (demand 3 of one key)
use Prim.Native.Nat.{ℕ}
use mathlib.Core.Bool.{true, false}
use mathlib.Core.List.{List, [], ◌∷◌, ◌++◌, map}
use mathlib.Core.Path.{◌≡◌, refl, sym, ◌∙◌, ap}
use lib.Dec.{ltb, eqb}
use borrow.Author.Tests.{eqb-true}
use Rattle.grid.specs.Lists.{any, ascending}
use Rattle.grid.specs.Times.{below}
use Rattle.grid.specs.Frontiers.{beyond}
use Rattle.grid.specs.Consolidate.{lex}
use Rattle.grid.specs.Records.{Row, before}
use Rattle.grid.proofs.Tests.{by-test}
use Rattle.grid.proofs.Lists.{all_imp, all_map, keep_all}
use Rattle.grid.proofs.Ascending.{ascending_above, ascending_rest, ascending_cons}
use Rattle.grid.proofs.Consolidate.{strict_ltb, strict_lex, tally}
use Rattle.rules.specs.Histories.{Edit, time_of}
use Rattle.rules.specs.Discover.{State}
use Rattle.rules.specs.Retire.{seen, corrections}
use Rattle.rules.specs.Call.{Request, Done, check15, together, edits_of, times_of, pending_of, work}
use Rattle.rules.specs.Right.{Right, touched}
use Rattle.rules.proofs.Histories.{visible}
use Rattle.rules.proofs.Retire.{seen_ext, visible_append, right_as, corrected}
use Rattle.rules.proofs.Keys.{tally_together}
use Rattle.rules.proofs.Settling.{Live, live_short}
use Rattle.rules.proofs.Right.{found, settled, rightness}

-- ---- a key's part of a run
module _ (k : ℕ) where
  pub edits-append : (rs qs : List Row) → edits_of k (rs ++ qs) ≡ edits_of k rs ++ edits_of k qs
  unfolding edits_of
  edits-append [] qs = refl
  edits-append (r ∷ rs) qs = by-test (eqb k r.key) (λ e. rw (e, edits-append rs qs)) (λ e. rw (e, edits-append rs qs))

  pub edits-together : (t : ℕ) (rs qs : List Row) → seen t (edits_of k (together rs qs)) ≡ seen t (edits_of k (rs ++ qs))
  edits-together t rs qs =
      seen_ext t t (edits_of k (together rs qs)) (edits_of k (rs ++ qs))
      (λ p. tally_together (visible t p) k rs qs ∙ sym (ap (tally (visible t p)) (edits-append rs qs) ∙ visible_append t p (edits_of k rs) (edits_of k qs)))

  pub times-edits : (rs : List Row) → times_of k rs ≡ map time_of (edits_of k rs)
  unfolding times_of edits_of time_of
  times-edits [] = refl
  times-edits (r ∷ rs) = by-test (eqb k r.key) (λ e. rw (e, times-edits rs)) (λ e. rw (e, times-edits rs))

-- ---- a key's pending times ascend
-- of entries of one key the later one has the later time
lex-second : (k : ℕ) (p r : ℕ × ℕ) → eqb k p.0 ≡ true → eqb k r.0 ≡ true → lex ltb ltb p r ≡ true → ltb p.1 r.1 ≡ true
lex-second k p r a b e =
    let same : p.0 ≡ r.0 = sym (eqb-true k p.0 a) ∙ eqb-true k r.0 b in
    let e' : lex ltb ltb (r.0, p.1) (r.0, r.1) ≡ true = rw same at e in
    rw (strict_ltb.irreflexive r.0) at e'

pub pending_ascends : (k : ℕ) (ps : List (ℕ × ℕ)) → ascending (lex ltb ltb) ps ≡ true → ascending ltb (pending_of k ps) ≡ true
unfolding pending_of
pending_ascends k [] e = refl
pending_ascends k (p ∷ ps) e =
    let ih = pending_ascends k ps (ascending_rest (lex ltb ltb) p ps e) in
    by-test (eqb k p.0)
    (λ c. rw c (ascending_cons ltb p.1 (pending_of k ps) (all_map (λ (r : ℕ × ℕ). r.1) (keep_all (λ r. eqb k r.0) (all_imp (λ (r : ℕ × ℕ) h b. lex-second k p r c b h) (ascending_above (lex ltb ltb) (strict_lex strict_ltb strict_ltb) p ps e)))) ih))
    (λ c. rw c ih)

-- ---- one key of a call
module _ (q : Request) (k : ℕ) where
  abbrev pub done : Done
  done = work q (together q.old q.new) k

  abbrev pub done_output : List Edit
  done_output = edits_of k q.out ++ corrections done.rounds

  abbrev old : List Edit
  old = edits_of k q.old

  abbrev new : List Edit
  new = edits_of k q.new

  abbrev all : List Edit
  all = edits_of k (together q.old q.new)

  abbrev out : List Edit
  out = edits_of k q.out

  abbrev pend : List ℕ
  pend = pending_of k q.pending

  done_found : done.found ≡ found q.upper (map time_of new) pend all out
  unfolding work
  done_found = rw (times-edits k q.new, times-edits k q.out)

  done_corrected : done_output ≡ corrected q.mode all out (found q.upper (map time_of new) pend all out).moments
  unfolding work
  done_corrected = ap (λ (s : State). corrected q.mode all out s.moments) done_found

  touched-edits : (t : ℕ) → touched q k t ≡ any (λ x. below x t) (map time_of new ++ pend)
  unfolding touched
  touched-edits t = rw (times-edits k q.new)

  all_seen : (t : ℕ) → seen t all ≡ seen t (old ++ new)
  all_seen t = edits-together k t q.old q.new ∙ ap (seen t) (edits-append k q.old q.new)

  ascends : check15 q ≡ true → ascending ltb pend ≡ true
  unfolding check15
  ascends c = pending_ascends k q.pending c

  module _ {D : State → ℕ → Type 0} (live : Live q.upper D) (c : check15 q ≡ true) (o : done.found.over ≡ false) where
    -- the same of what was found over the key's edits
    over_found : (found q.upper (map time_of new) pend all out).over ≡ false
    over_found = sym (ap (λ (s : State). s.over) done_found) ∙ o

    live_found : (t : ℕ) → D done.found t → D (found q.upper (map time_of new) pend all out) t
    live_found t d = rw (← done_found) d

    -- and back to the records
    over-rows : (t : ℕ) → Right q.mode all (corrected q.mode all out (found q.upper (map time_of new) pend all out).moments) t → Right q.mode (edits_of k (q.old ++ q.new)) done_output t
    over-rows t r = right_as q.mode t t (edits-together k t q.old q.new) (ap (seen t) (sym done_corrected)) r

    pub done_settled : (t : ℕ) → D done.found t → touched q k t ≡ true → Right q.mode (edits_of k (q.old ++ q.new)) done_output t
    done_settled t d e =
        over-rows t (settled q.mode q.upper (map time_of new) pend all out live (ascends c) over_found t (live_found t d) (sym (touched-edits t) ∙ e))

    pub done_right : ((t : ℕ) → D done.found t → any (λ x. below x t) pend ≡ false → Right q.mode old out t) → (t : ℕ) → D done.found t → Right q.mode (edits_of k (q.old ++ q.new)) done_output t
    done_right before t d =
        over-rows t (rightness q.mode q.upper pend old new all out all_seen live (ascends c) over_found (λ r h. before r (rw done_found h)) t (live_found t d))

  -- at every time short of upper
  pub done_right_short : check15 q ≡ true → done.found.over ≡ false → ((t : ℕ) → beyond q.upper t ≡ false → any (λ x. below x t) pend ≡ false → Right q.mode old out t) → (t : ℕ) → beyond q.upper t ≡ false → Right q.mode (edits_of k (q.old ++ q.new)) done_output t
  done_right_short c o before t short = done_right (live_short q.upper) c o before t short
