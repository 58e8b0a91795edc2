-- The worked cases, by computation: one fact for each table.
use mathlib.Core.List.{List, map}
use mathlib.Core.Path.{◌≡◌, refl}
use Rattle.rules.specs.Cases.{Case, outcome, opened, by_hand, misleading, statuses}

-- each question of the table gives what the table says
pub record Computes (table : List Case) : Type 0 where
  pub outcomes : map (λ (c : Case). outcome c.given) table ≡ map (λ (c : Case). c.gives) table

-- K1 to K12
pub by_hand_lem : Computes by_hand
unfolding opened by_hand
by_hand_lem = record { outcomes = refl }

-- the errors that look right, and the readings
pub misled_by_none : Computes misleading
unfolding opened misleading
misled_by_none = record { outcomes = refl }

-- each status, and which of several wins
pub each_status : Computes statuses
unfolding opened statuses
each_status = record { outcomes = refl }
