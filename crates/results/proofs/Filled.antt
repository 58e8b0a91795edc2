-- Result memory, from its front on.
--
-- laid-first: a list laid over the front of zeros
-- Filled z at m xs rest s: s holds xs up to `at`, then m zeros, then rest. filled_block: one block among zeros. filled_more: the next block laid over the zeros
-- filled_on: a block past the zeros, when there are none left. filled_end: only zeros are left
-- memory_filled: all of result memory
use Prim.Native.Nat.{ℕ, ◌+◌, ◌*◌, ◌-◌, ◌≤◌}
use native.Mathlib.Omega.{arith}
use native.Mathlib.Nat.{zero-add}
use mathlib.Core.List.{List, [], ◌++◌, append_assoc, append-nil}
use mathlib.Core.Path.{◌≡◌, refl, sym, ◌∙◌, ap}
use lib.ListN.{length, take, drop, replicate, length-append, length-replicate, replicate-append-replicate}
use lib.Seq.{take_at, drop-append-le, drop-drop, drop_at}
use Rattle.grid.specs.Lists.{padded}
use Rattle.grid.specs.Frontiers.{most_times}
use Rattle.grid.specs.Records.{most_records}
use Rattle.grid.proofs.Operations.{drop_zeros}
use Rattle.rules.specs.Memory.{tile_size, numbers_size}
use Rattle.placing.specs.Parts.{laid_at, column_at, tiles_at, frontier_at}

module _ {A : Type 0} (z : A) where
  pub laid-first : (n : ℕ) (ys : List A) → laid_at 0 ys (replicate n z) ≡ padded z n ys
  unfolding laid_at
  laid-first n ys = ap (λ k. ys ++ drop k (replicate n z)) (zero-add (length ys)) ∙ ap (λ l. ys ++ l) (drop_zeros z (length ys) n)

  record Filled (at m : ℕ) (xs rest s : List A) : Type 0 where
    counted : length xs ≡ at
    holds : s ≡ xs ++ (replicate m z ++ rest)

  filled_more : {at m : ℕ} {xs rest s : List A} (w : ℕ) (ys : List A) → length ys ≤ w → w ≤ m → Filled at m xs rest s → Filled (at + w) (m - w) (xs ++ padded z w ys) rest (laid_at at ys s)
  unfolding laid_at
  filled_more {at} {m} {xs} {rest} {s} w ys h k f =
      let n : length xs ≡ at = f.counted in
      let zeros : m - length ys ≡ (w - length ys) + (m - w) = omega arith in
      let front : take at s ≡ xs = ap (take at) f.holds ∙ take_at xs (replicate m z ++ rest) at n in
      let back : drop (at + length ys) s ≡ replicate (w - length ys) z ++ (replicate (m - w) z ++ rest) =
      sym (drop-drop (length ys) at s)
      ∙ ap (λ l. drop (length ys) l) (ap (drop at) f.holds ∙ drop_at xs (replicate m z ++ rest) at n)
      ∙ drop-append-le (length ys) (replicate m z) rest (rw (length-replicate m z) (omega arith))
      ∙ ap (λ l. l ++ rest) (drop_zeros z (length ys) m ∙ ap (λ j. replicate j z) zeros ∙ sym (replicate-append-replicate (w - length ys) (m - w) z))
      ∙ append_assoc (replicate (w - length ys) z) (replicate (m - w) z) rest in
      record {
        counted = length-append xs (padded z w ys) ∙ rw (length-append ys (replicate (w - length ys) z), length-replicate (w - length ys) z) (omega arith);
        holds =
            (λ i. front i ++ (ys ++ back i))
            ∙ ap (λ l. xs ++ l) (sym (append_assoc ys (replicate (w - length ys) z) (replicate (m - w) z ++ rest)))
            ∙ sym (append_assoc xs (padded z w ys) (replicate (m - w) z ++ rest));
      }

  -- zeros, and one block among them
  filled_block : (size at w : ℕ) (ys : List A) → length ys ≤ w → at + w ≤ size → Filled 0 at [] (padded z w ys ++ (replicate (size - (at + w)) z ++ [])) (laid_at at ys (replicate size z))
  filled_block size at w ys h k =
      let n : size ≡ at + (size - at) = omega arith in
      let m : (size - at) - w ≡ size - (at + w) = omega arith in
      let zeros : Filled at (size - at) (replicate at z) [] (replicate size z) =
      record {
        counted = length-replicate at z;
        holds = ap (λ k. replicate k z) n ∙ sym (replicate-append-replicate at (size - at) z) ∙ ap (λ l. replicate at z ++ l) (sym (append-nil (replicate (size - at) z)));
      } in
      record {
        counted = refl;
        holds =
            (filled_more w ys h (omega arith) zeros).holds
            ∙ append_assoc (replicate at z) (padded z w ys) (replicate ((size - at) - w) z ++ [])
            ∙ ap (λ k. replicate at z ++ (padded z w ys ++ (replicate k z ++ []))) m;
      }

  -- a block past the last zeros
  filled_on : {at : ℕ} {xs s : List A} (w m : ℕ) (ys rest : List A) → length ys ≤ w → Filled at 0 xs (padded z w ys ++ (replicate m z ++ rest)) s → Filled (at + w) m (xs ++ padded z w ys) rest s
  filled_on {at} {xs} w m ys rest h f =
      let n : length xs ≡ at = f.counted in
      record {
        counted = length-append xs (padded z w ys) ∙ rw (length-append ys (replicate (w - length ys) z), length-replicate (w - length ys) z) (omega arith);
        holds = f.holds ∙ sym (append_assoc xs (padded z w ys) (replicate m z ++ rest));
      }

  filled_end : {at m : ℕ} {xs s : List A} (size : ℕ) → at + m ≡ size → Filled at m xs [] s → s ≡ padded z size xs
  filled_end {at} {m} {xs} size e f =
      let n : length xs ≡ at = f.counted in
      let k : m ≡ size - length xs = omega arith in
      f.holds ∙ ap (λ l. xs ++ l) (append-nil (replicate m z) ∙ ap (λ j. replicate j z) k)

-- six columns, the tiles and the frontier, over zeros. The tiles are laid first
module _ (size : ℕ) (h : numbers_size ≤ size) (a b c d e g ts fs : List ℕ)
    (ha : length a ≤ most_records) (hb : length b ≤ most_records) (hc : length c ≤ most_records) (hd : length d ≤ most_records) (he : length e ≤ most_records) (hg : length g ≤ most_records)
    (ht : length ts ≤ most_times * tile_size) (hf : length fs ≤ most_times) where
  abbrev columns : List ℕ
  columns = padded 0 most_records a ++ padded 0 most_records b ++ padded 0 most_records c ++ padded 0 most_records d ++ padded 0 most_records e ++ padded 0 most_records g

  abbrev columns_laid : List ℕ → List ℕ
  columns_laid s = laid_at (column_at 5) g (laid_at (column_at 4) e (laid_at (column_at 3) d (laid_at (column_at 2) c (laid_at (column_at 1) b (laid_at (column_at 0) a s)))))

  columns_filled : {rest s : List ℕ} → Filled {A = ℕ} 0 0 tiles_at [] rest s → Filled {A = ℕ} 0 tiles_at 0 columns rest (columns_laid s)
  columns_filled f =
      filled_more 0 most_records g hg (omega arith)
      (filled_more 0 most_records e he (omega arith)
      (filled_more 0 most_records d hd (omega arith)
      (filled_more 0 most_records c hc (omega arith)
      (filled_more 0 most_records b hb (omega arith)
      (filled_more 0 most_records a ha (omega arith) f)))))

  pub memory_filled : laid_at frontier_at fs (columns_laid (laid_at tiles_at ts (replicate size 0))) ≡ padded 0 size (columns ++ padded 0 (most_times * tile_size) ts ++ padded 0 most_times fs)
  memory_filled =
      filled_end 0 size (omega arith)
      (filled_more 0 most_times fs hf (omega arith)
      (filled_on 0 (most_times * tile_size) (size - frontier_at) ts [] ht (columns_filled (filled_block 0 size tiles_at (most_times * tile_size) ts ht (omega arith)))))
