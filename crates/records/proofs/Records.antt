-- Lines and sections, case by case.
--
-- Reading: so many lines of a kind were read, and the rest is still to come. counted_stop, counted_full: the lines are counted
-- sections_stand: of all kinds
-- Filling: a column lacks what is still to come. Rows, Pairs: all columns of a kind. rows_stored, pairs_stored: into columns of zeros
use Prim.Native.Nat.{ℕ, zero, suc, ◌+◌, ◌-◌, ◌≤◌, ◌<◌}
use native.Mathlib.Numerals.{add-one}
use native.Mathlib.Omega.{arith}
use mathlib.Core.Path.{◌≡◌, refl, ◌∙◌, ap}
use mathlib.Core.List.{List, [], ◌∷◌, ◌++◌, map}
use mathlib.Core.Option.{Option, none, some}
use lib.IntN.{ℤ, pos}
use lib.ListN.{length, drop, set, replicate, length-set, length-map, length-replicate}
use lib.Seq.{sets, sets-eq}
use Rattle.form.specs.Text.{ascii}
use Rattle.form.specs.Read.{most_lines, Reader, row, pair, line, many, sections}
use Rattle.grid.specs.Lists.{padded}
use Rattle.grid.specs.Records.{Row}
use Rattle.grid.proofs.Operations.{drop_zeros}
use Rattle.records.specs.declared.Section.{Section}
use Rattle.records.specs.Told.{Counted, Stands, SectionsStand, RowsRead, PairsRead, RowsStored, PairsStored}

-- ---- as many as there are
module _ {A : Type 0} (p : Reader A) (k : ℕ) (s : List ℕ) where
  many_stop : none ≡ p s → many p k s ≡ ([], s)
  unfolding many
  many_stop e = go k
    where
      go : (j : ℕ) → many p j s ≡ ([], s)
      go zero = refl
      go (suc j) = rw (← e, many)

  many_more : {x : A} {r : List ℕ} → some (x, r) ≡ p s → many p (suc k) s ≡ (x ∷ (many p k r).0, (many p k r).1)
  unfolding many
  many_more e = rw (← e, many)

pub many_full : {A : Type 0} (p : Reader A) (s : List ℕ) → many p 0 s ≡ ([], s)
unfolding many
many_full p s = refl

-- n lines of a kind were read, and the rest of them is still to come
pub record Reading {A : Type 0} (p : Reader A) (most : ℕ) (s : List ℕ) (from at n : ℕ) : Type 0 where
  pub within : n ≤ most
  pub counted : n + length (many p (most - n) (drop at s)).0 ≡ length (many p most (drop from s)).0
  pub after : (many p (most - n) (drop at s)).1 ≡ (many p most (drop from s)).1

-- a column holds its part f of the lines so far, and lacks that of the rest
pub record Filling {A B : Type 0} (f : A → B) (rest all : List A) (col₀ col : List B) (n : ℕ) : Type 0 where
  pub long : length col ≡ length col₀
  pub lacks : sets col n (map f rest) ≡ sets col₀ 0 (map f all)

module _ {A B : Type 0} {f : A → B} {rest all : List A} {col₀ col : List B} {n : ℕ} (h : Filling f rest all col₀ col n) where
  filling_end : rest ≡ [] → col ≡ sets col₀ 0 (map f all)
  filling_end e = rw e at h.lacks

  filling_more : {x : A} {rest' : List A} → rest ≡ x ∷ rest' → Filling f rest' all col₀ (set col n (f x)) (n + 1)
  filling_more {x} {rest'} e = record { long = length-set col n (f x) ∙ h.long; lacks = rw (add-one n) (rw e at h.lacks) }

module _ {A : Type 0} {p : Reader A} {most : ℕ} {s : List ℕ} {from at n : ℕ} (h : Reading p most s from at n) where
  none_left : none ≡ p (drop at s) → many p (most - n) (drop at s) ≡ ([], drop at s)
  none_left e = many_stop p (most - n) (drop at s) e

  all_read : most ≤ n → many p (most - n) (drop at s) ≡ ([], drop at s)
  all_read q = let z : most - n ≡ 0 = omega arith in rw z (many_full p (drop at s))

  module _ {x : A} (next : ℕ) (q : n < most) (e : some (x, drop next s) ≡ p (drop at s)) where
    one_more : many p (most - n) (drop at s) ≡ (x ∷ (many p (most - (n + 1)) (drop next s)).0, (many p (most - (n + 1)) (drop next s)).1)
    one_more = let z : most - n ≡ suc (most - (n + 1)) = omega arith in rw z (many_more p (most - (n + 1)) (drop at s) e)

    first_more : (many p (most - n) (drop at s)).0 ≡ x ∷ (many p (most - (n + 1)) (drop next s)).0
    first_more = ap (λ m. m.0) one_more

    pub reading_more : Reading p most s from next (n + 1)
    reading_more = record {
      within = omega arith;
      counted = let w : n + suc (length (many p (most - (n + 1)) (drop next s)).0) ≡ length (many p most (drop from s)).0 = rw first_more at h.counted in omega arith;
      after = rw one_more at h.after;
    }

-- ---- counting
module _ {A : Type 0} {p : Reader A} {s : List ℕ} {from at n : ℕ} (h : Reading p most_lines s from at n) where
  counted_end : many p (most_lines - n) (drop at s) ≡ ([], drop at s) → Counted s p from (record { first = from; count = n; next = at })
  counted_end e = record {
    first_is = refl;
    counted = let q : n + 0 ≡ length (many p most_lines (drop from s)).0 = rw e at h.counted in omega arith;
    after = rw e at h.after;
  }

  pub counted_stop : none ≡ p (drop at s) → Counted s p from (record { first = from; count = n; next = at })
  counted_stop e = counted_end (none_left h e)

  pub counted_full : most_lines ≤ n → Counted s p from (record { first = from; count = most_lines; next = at })
  counted_full q = let e : n ≡ most_lines = omega (arith, h.within) in rw e at (counted_end (all_read h q))

pub many_most : {A : Type 0} (p : Reader A) (k : ℕ) (s : List ℕ) → length (many p k s).0 ≤ k
unfolding many
many_most p zero s = omega arith
many_most {A} p (suc k) s = go (p s) (many_most p k)
  where
    go : (o : Option (A × List ℕ)) → ((r : List ℕ) → length (many p k r).0 ≤ k) → length (elim o as (λ x. List A × List ℕ) [ none ↦ ([], s) | some x ↦ let r = many p k x.1 in (x.0 ∷ r.0, r.1) ]).0 ≤ suc k
    go none ih = omega arith
    go (some x) ih = let h : length (many p k x.1).0 ≤ k = ih x.1 in omega arith

-- as many as there are, asked for by their number
many_again : {A : Type 0} (p : Reader A) (k : ℕ) (s : List ℕ) → (many p (length (many p k s).0) s).0 ≡ (many p k s).0
many_again p zero s = rw (many_full p s) (ap (λ m. m.0) (many_full p s))
many_again {A} p (suc k) s = go (p s) refl (many_again p k)
  where
    go : (o : Option (A × List ℕ)) → o ≡ p s → ((r : List ℕ) → (many p (length (many p k r).0) r).0 ≡ (many p k r).0) → (many p (length (many p (suc k) s).0) s).0 ≡ (many p (suc k) s).0
    go none e ih = rw (many_stop p (suc k) s e) (ap (λ m. m.0) (many_full p s))
    go (some x) e ih = rw (many_more p k s {x = x.0} {r = x.1} e) (ap (λ m. m.0) (many_more p (length (many p k x.1).0) s {x = x.0} {r = x.1} e) ∙ ap (λ l. x.0 ∷ l) (ih x.1))

stands_from : {A : Type 0} {p : Reader A} {s : List ℕ} {from : ℕ} {x : Section} {t : List ℕ} → Counted s p from x → drop from s ≡ t → Stands s p (many p most_lines t).0 x
stands_from {p = p} {s} {from} {x} {t} c e = rw (← e) (record {
  few = rw c.counted (many_most p most_lines (drop from s));
  counted = c.counted;
  lines = rw (c.first_is, c.counted) (many_again p most_lines (drop from s));
})

pub sections_stand : {s : List ℕ} (from : ℕ) {a b e f : Section} →
    Counted s (line (ascii "old=") row) from a → Counted s (line (ascii "new=") row) a.next b → Counted s (line (ascii "out=") row) b.next e → Counted s (line (ascii "pend=") pair) e.next f →
    SectionsStand s (sections (drop from s)) (record { old = a; new = b; out = e; pending = f })
unfolding sections
sections_stand {s} from {a} {b} {e} {f} x y z w =
    let new : drop b.next s ≡ (many (line (ascii "new=") row) most_lines (many (line (ascii "old=") row) most_lines (drop from s)).1).1 = y.after ∙ ap (λ t. (many (line (ascii "new=") row) most_lines t).1) x.after in
    let out : drop e.next s ≡ (many (line (ascii "out=") row) most_lines (many (line (ascii "new=") row) most_lines (many (line (ascii "old=") row) most_lines (drop from s)).1).1).1 = z.after ∙ ap (λ t. (many (line (ascii "out=") row) most_lines t).1) new in
    record {
      old = stands_from x refl;
      new = stands_from y x.after;
      out = stands_from z new;
      pending = stands_from w out;
      after = w.after ∙ ap (λ t. (many (line (ascii "pend=") pair) most_lines t).1) out;
    }

-- ---- storing
pub record Rows (s : List ℕ) (p : Reader Row) (from most : ℕ) (ks₀ vs₀ ts₀ : List ℕ) (ds₀ : List ℤ) (ks vs ts : List ℕ) (ds : List ℤ) (at n : ℕ) : Type 0 where
  pub lines : Reading p most s from at n
  pub keys : Filling (λ r. r.key) (many p (most - n) (drop at s)).0 (many p most (drop from s)).0 ks₀ ks n
  pub values : Filling (λ r. r.value) (many p (most - n) (drop at s)).0 (many p most (drop from s)).0 vs₀ vs n
  pub times : Filling (λ r. r.time) (many p (most - n) (drop at s)).0 (many p most (drop from s)).0 ts₀ ts n
  pub diffs : Filling (λ r. r.diff) (many p (most - n) (drop at s)).0 (many p most (drop from s)).0 ds₀ ds n

module _ {s : List ℕ} {p : Reader Row} {from most : ℕ} {ks₀ vs₀ ts₀ : List ℕ} {ds₀ : List ℤ} {ks vs ts : List ℕ} {ds : List ℤ} {at n : ℕ} (h : Rows s p from most ks₀ vs₀ ts₀ ds₀ ks vs ts ds at n) where
  rows_end : many p (most - n) (drop at s) ≡ ([], drop at s) → RowsRead (many p most (drop from s)).0 ks₀ vs₀ ts₀ ds₀ ks vs ts ds
  rows_end e = record {
    keys = filling_end h.keys (ap (λ m. m.0) e);
    values = filling_end h.values (ap (λ m. m.0) e);
    times = filling_end h.times (ap (λ m. m.0) e);
    diffs = filling_end h.diffs (ap (λ m. m.0) e);
  }

  pub rows_stop : none ≡ p (drop at s) → RowsRead (many p most (drop from s)).0 ks₀ vs₀ ts₀ ds₀ ks vs ts ds
  rows_stop e = rows_end (none_left h.lines e)

  pub rows_full : most ≤ n → RowsRead (many p most (drop from s)).0 ks₀ vs₀ ts₀ ds₀ ks vs ts ds
  rows_full q = rows_end (all_read h.lines q)

  pub rows_more : {r : Row} {next : ℕ} {z : ℤ} → n < most → some (r, drop next s) ≡ p (drop at s) → z ≡ r.diff → Rows s p from most ks₀ vs₀ ts₀ ds₀ (set ks n r.key) (set vs n r.value) (set ts n r.time) (set ds n z) next (n + 1)
  rows_more {next = next} q e z = rw z (record {
    lines = reading_more h.lines next q e;
    keys = filling_more h.keys (first_more h.lines next q e);
    values = filling_more h.values (first_more h.lines next q e);
    times = filling_more h.times (first_more h.lines next q e);
    diffs = filling_more h.diffs (first_more h.lines next q e);
  })

pub record Pairs (s : List ℕ) (p : Reader (ℕ × ℕ)) (from most : ℕ) (ks₀ ts₀ : List ℕ) (ks ts : List ℕ) (at n : ℕ) : Type 0 where
  pub lines : Reading p most s from at n
  pub keys : Filling (λ r. r.0) (many p (most - n) (drop at s)).0 (many p most (drop from s)).0 ks₀ ks n
  pub times : Filling (λ r. r.1) (many p (most - n) (drop at s)).0 (many p most (drop from s)).0 ts₀ ts n

module _ {s : List ℕ} {p : Reader (ℕ × ℕ)} {from most : ℕ} {ks₀ ts₀ : List ℕ} {ks ts : List ℕ} {at n : ℕ} (h : Pairs s p from most ks₀ ts₀ ks ts at n) where
  pairs_end : many p (most - n) (drop at s) ≡ ([], drop at s) → PairsRead (many p most (drop from s)).0 ks₀ ts₀ ks ts
  pairs_end e = record { keys = filling_end h.keys (ap (λ m. m.0) e); times = filling_end h.times (ap (λ m. m.0) e) }

  pub pairs_stop : none ≡ p (drop at s) → PairsRead (many p most (drop from s)).0 ks₀ ts₀ ks ts
  pairs_stop e = pairs_end (none_left h.lines e)

  pub pairs_full : most ≤ n → PairsRead (many p most (drop from s)).0 ks₀ ts₀ ks ts
  pairs_full q = pairs_end (all_read h.lines q)

  pub pairs_more : {k t : ℕ} {next : ℕ} → n < most → some ((k, t), drop next s) ≡ p (drop at s) → Pairs s p from most ks₀ ts₀ (set ks n k) (set ts n t) next (n + 1)
  pairs_more {next = next} q e = record {
    lines = reading_more h.lines next q e;
    keys = filling_more h.keys (first_more h.lines next q e);
    times = filling_more h.times (first_more h.lines next q e);
  }

-- ---- into columns of zeros
stored : {A B : Type 0} (z : B) (f : A → B) (rows : List A) (col : List B) {col₁ col' : List B} → col₁ ≡ replicate (length col) z → length rows ≤ length col → col' ≡ sets col₁ 0 (map f rows) → col' ≡ padded z (length col) (map f rows)
stored z f rows col e h q =
    let n : length (map f rows) ≡ length rows = length-map rows f in
    let m : length (replicate (length col) z) ≡ length col = length-replicate (length col) z in
    q ∙ ap (λ l. sets l 0 (map f rows)) e ∙ sets-eq (map f rows) (replicate (length col) z) 0 (omega arith)
    ∙ ap (λ l. map f rows ++ l) (drop_zeros z (0 + length (map f rows)) (length col) ∙ (let k : length col - (0 + length (map f rows)) ≡ length col - length (map f rows) = omega arith in rw k))

pub rows_stored : {rows : List Row} {k : ℕ} {ks vs ts : List ℕ} {ds : List ℤ} {ks₁ vs₁ ts₁ : List ℕ} {ds₁ : List ℤ} {ks' vs' ts' : List ℕ} {ds' : List ℤ}
    → length rows ≤ k → k ≤ length ks → k ≤ length vs → k ≤ length ts → k ≤ length ds
    → ks₁ ≡ replicate (length ks) 0 → vs₁ ≡ replicate (length vs) 0 → ts₁ ≡ replicate (length ts) 0 → ds₁ ≡ replicate (length ds) (pos 0)
    → RowsRead rows ks₁ vs₁ ts₁ ds₁ ks' vs' ts' ds' → RowsStored rows ks vs ts ds ks' vs' ts' ds'
rows_stored {rows} {ks = ks} {vs} {ts} {ds} m a b c d e f g h r = record {
  keys = stored 0 (λ r. r.key) rows ks e (omega arith) r.keys;
  values = stored 0 (λ r. r.value) rows vs f (omega arith) r.values;
  times = stored 0 (λ r. r.time) rows ts g (omega arith) r.times;
  diffs = stored (pos 0) (λ r. r.diff) rows ds h (omega arith) r.diffs;
}

pub pairs_stored : {ps : List (ℕ × ℕ)} {k : ℕ} {ks ts ks₁ ts₁ ks' ts' : List ℕ} → length ps ≤ k → k ≤ length ks → k ≤ length ts → ks₁ ≡ replicate (length ks) 0 → ts₁ ≡ replicate (length ts) 0 → PairsRead ps ks₁ ts₁ ks' ts' → PairsStored ps ks ts ks' ts'
pairs_stored {ps} {ks = ks} {ts} m a b e f r = record { keys = stored 0 (λ p. p.0) ps ks e (omega arith) r.keys; times = stored 0 (λ p. p.1) ps ts f (omega arith) r.times }
