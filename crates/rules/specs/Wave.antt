-- "bilinear_wave. Steps the history whose head is strictly earlier, else the second; before each step the other's buffer is advanced by the
-- stepped one's meet, and every pair is emitted with joined time and multiplied diff. The head comparison hands back the remaining part of
-- one of the two lent runs. Memory too short is 11; at most 1,024 edits a side with diffs -2^20 to 2^20 (else 14) and 4,096 emissions (else
-- 18, memory cleared). Emitted pairs consolidate to the plain cross product's."
--
-- Emission: ((time, (first value, second value)), diff)
-- cross: the plain cross product. It is what a step emits, too: the stepped edit with the other's buffer
-- first_steps: the first history steps, not the second. chosen: what is ahead of the one that steps
-- advanced_by h k: k, its buffer advanced by the meet of what is ahead of h. step_one: one edit moved into the buffer
-- wave: the emissions in their order, at most k steps. wave_of: of two runs
-- good_wave_run: check 14 of one side. wave_call: the whole call, given whether columns and memory are as long as they must be
use Rattle.std.specs.Prelude.{ℕ, zero, suc, ◌+◌, Bool, true, false, cond, ◌&&◌, List, [], ◌∷◌, ◌++◌, map, leb, ltb, ℤ, nat_abs, ◌*ℤ◌, length, take, drop}
use Rattle.std.proofs.Math.Option.{none}
use Rattle.grid.specs.Lists.{every, flat}
use Rattle.grid.specs.Times.{join, meets}
use Rattle.rules.specs.Histories.{Edit, ValueHistory, time_of, value_of, load_edits, loaded, advance_edits}

abbrev pub Emission : Type 0
Emission = (ℕ × (ℕ × ℕ)) × ℤ

unfoldable pub emission : Edit → Edit → Emission
emission a b = ((join (time_of a) (time_of b), (value_of a, value_of b)), a.1 *ℤ b.1)

unfoldable pub cross : List Edit → List Edit → List Emission
cross as' bs = flat (λ a. map (emission a) bs) as'

unfoldable pub first_steps : List Edit → List Edit → Bool
first_steps [] bs = false
first_steps (a ∷ as') [] = true
first_steps (a ∷ as') (b ∷ bs) = ltb (time_of a) (time_of b)

unfoldable pub chosen : List Edit → List Edit → List Edit
chosen as' bs = cond (first_steps as' bs) as' bs

unfoldable pub advanced_by : ValueHistory → ValueHistory → ValueHistory
advanced_by h k = record { ahead = k.ahead; buffer = advance_edits (meets (map time_of h.ahead) none) k.buffer }

unfoldable pub step_one : ValueHistory → ValueHistory
step_one h = record { ahead = drop 1 h.ahead; buffer = h.buffer ++ take 1 h.ahead }

unfoldable pub wave : ℕ → ValueHistory → ValueHistory → List Emission
wave zero h k = []
wave (suc n) h k = elim (first_steps h.ahead k.ahead) [
  | true ↦ (let k' = advanced_by h k in cross (take 1 h.ahead) k'.buffer ++ wave n (step_one h) k')
  | false ↦ (let h' = advanced_by k h in cross h'.buffer (take 1 k.ahead) ++ wave n h' (step_one k))
]

unfoldable pub wave_of : List Edit → List Edit → List Emission
wave_of as' bs =
    let h = load_edits none as' in
    let k = load_edits none bs in
    wave (length h + length k) (loaded h) (loaded k)

unfoldable pub good_wave_run : List Edit → Bool
good_wave_run es = leb (length es) 1024 && every (λ (e : Edit). leb (nat_abs e.1) 1048576) es

pub record WaveAnswer : Type 0 where
  pub status : ℕ
  pub emitted : List Emission

unfoldable pub wave_refused : ℕ → WaveAnswer
wave_refused n = record { status = n; emitted = [] }

unfoldable pub wave_call : Bool → List Edit → List Edit → WaveAnswer
wave_call lent_well as' bs =
    let es = wave_of as' bs in
    let done : WaveAnswer = cond (leb (length es) 4096) (record { status = 0; emitted = es }) (wave_refused 18) in
    cond lent_well (cond (good_wave_run as' && good_wave_run bs) done (wave_refused 14)) (wave_refused 11)
