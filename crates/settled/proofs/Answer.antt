-- What a call answers, by what its windows gave.
--
-- answer-many: 18, if a limit was passed. answer_large: 19, if a window is too large beside those before it. answer-worked: 0 past the last window,
-- with the corrections that were made, placed and sorted
use Prim.Native.Nat.{ℕ, ◌≤◌}
use native.Mathlib.Omega.{arith}
use mathlib.Core.Bool.{true, false, not}
use mathlib.Core.List.{List, map}
use mathlib.Core.Path.{◌≡◌, sym, ◌∙◌, ap}
use lib.ListN.{length}
use Rattle.grid.specs.Lists.{sort}
use Rattle.grid.specs.Frontiers.{minimal}
use Rattle.grid.specs.Records.{Row, most_records}
use Rattle.rules.specs.Tiles.{tiles}
use Rattle.rules.specs.Call.{Request, fix_before, changed, work_all, pended_all, too_many, refused, call}
use Rattle.rules.proofs.Statuses.{Works, call_limits, call-worked, call-refused}
use Rattle.slots.specs.Slots.{rows_too_large}
use Rattle.settled.specs.Call.{windows_of, rows_of, as_fix}
use Rattle.settled.proofs.Call.{Rules, call_settled}
use Rattle.settled.proofs.Through.{Through, through_rows, through_count}

module _ {q : Request} (W : Works q) where
  pub answer-many : too_many (work_all q) ≡ true → call q ≡ refused 18
  answer-many m =
      let e : (call q).status ≡ 18 = (call_limits q).row_18.1 (W, m) in
      call-refused q (omega arith) ∙ ap refused e

  module _ (few : too_many (work_all q) ≡ false) where
    pub answer_large : rows_too_large most_records 0 (rows_of q (windows_of q (changed q))) ≡ true → call q ≡ refused 19
    answer_large l =
        let e : (call q).status ≡ 19 = (call_limits q).row_19.1 (W, few, sym (call_settled q W.accepted).large_is ∙ l) in
        call-refused q (omega arith) ∙ ap refused e

    pub answer-worked : {p : ℕ} {rows : List Row} {count : ℕ} → Through most_records q p rows count → length (changed q) ≤ p → call q ≡ record {
      status = 0;
      crossings = count;
      tiles = tiles q.lower q.upper q.held;
      fixes = sort (λ f g. not (fix_before g f)) (map (as_fix q) rows);
      pending = pended_all (work_all q);
      frontier = minimal (map (λ p. p.1) (pended_all (work_all q)));
    }
    answer-worked {p} {rows} {count} t z =
        let R : Rules q rows count = rw (through_rows t z, through_count t z) (call_settled q W.accepted) in
        let e : (call q).status ≡ 0 = (call_limits q).row_0.1 (W, few, sym R.large_is ∙ t.rows_fit) in
        let A = call-worked q e in
        λ i. record {
          status = e i;
          crossings = (A.crossings_are ∙ sym R.crossings_are) i;
          tiles = A.tiles_are i;
          fixes = (A.fixes_are ∙ sym R.fixes_are) i;
          pending = A.pending_is i;
          frontier = A.frontier_is i;
        }
