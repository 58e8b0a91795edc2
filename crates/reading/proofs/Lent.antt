-- What was read, lent to a call: the parts of the columns that a request fills are the request.
--
-- part_is: the part of a column that its list fills. columns_of, lent_of: a run, a request, as it is lent
-- call-lent: so the call that is lent a request in memory that is roomy answers the request
use Prim.Native.Nat.{ℕ, ◌-◌}
use mathlib.Core.Bool.{true}
use mathlib.Core.List.{List, [], ◌∷◌, map}
use mathlib.Core.Path.{◌≡◌, refl, ◌∙◌, ap}
use lib.Dec.{eqb}
use lib.ListN.{length, take, replicate, length-map}
use lib.Seq.{take-append_seam}
use borrow.Author.Tests.{eq-eqb}
use Rattle.grid.specs.Lists.{padded}
use Rattle.grid.specs.Records.{Row, Columns, rows}
use Rattle.grid.proofs.Operations.{pairs-columns}
use Rattle.rules.specs.Call.{Request, call}
use Rattle.rules.specs.Memory.{Memory, Sizes, Lent, alike, roomy, lent_well, rows_of, request_of, call_lent}
use Rattle.rules.proofs.Memory.{lent_well_lem}

pub part_is : {A : Type 0} (z : A) (n : ℕ) (xs : List A) → take (length xs) (padded z n xs) ≡ xs
part_is z n xs = take-append_seam xs (replicate (n - length xs) z)

abbrev pub columns_of : List Row → Columns
columns_of rs = record { keys = map (λ r. r.key) rs; values = map (λ r. r.value) rs; times = map (λ r. r.time) rs; diffs = map (λ r. r.diff) rs }

abbrev pub lent_of : Request → Memory → Lent
lent_of q m = record {
  mode = q.mode;
  width = q.width;
  lower = q.lower;
  upper = q.upper;
  held = q.held;
  old = columns_of q.old;
  new = columns_of q.new;
  out = columns_of q.out;
  pending_keys = map (λ p. p.0) q.pending;
  pending_times = map (λ p. p.1) q.pending;
  memory = m;
}

rows_back : (rs : List Row) → rows (map (λ r. r.key) rs) (map (λ r. r.value) rs) (map (λ r. r.time) rs) (map (λ r. r.diff) rs) ≡ rs
rows_back [] = refl
rows_back (r ∷ rs) = ap (λ l. r ∷ l) (rows_back rs)

columns-alike : (rs : List Row) → alike (columns_of rs) ≡ true
unfolding alike
columns-alike rs = simp length-map (rw (eq-eqb (length rs) (length rs) refl))

pairs-alike : (ps : List (ℕ × ℕ)) → eqb (length (map (λ (p : ℕ × ℕ). p.1) ps)) (length (map (λ (p : ℕ × ℕ). p.0) ps)) ≡ true
pairs-alike ps = simp length-map (eq-eqb (length ps) (length ps) refl)

request-lent : (q : Request) (m : Memory) → request_of (lent_of q m) ≡ q
unfolding request_of rows_of
request-lent q m = λ i. record {
  mode = q.mode;
  width = q.width;
  lower = q.lower;
  upper = q.upper;
  held = q.held;
  old = rows_back q.old i;
  new = rows_back q.new i;
  out = rows_back q.out i;
  pending = pairs-columns q.pending i;
}

pub call-lent : (z : Sizes) (q : Request) (m : Memory) → roomy z m ≡ true → call_lent z (lent_of q m) ≡ call q
unfolding lent_well
call-lent z q m r = lent_well_lem z (lent_of q m) (rw (columns-alike q.old, columns-alike q.new, columns-alike q.out, pairs-alike q.pending, r)) ∙ ap call (request-lent q m)
