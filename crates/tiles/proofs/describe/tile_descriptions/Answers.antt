use Rattle.tiles.proofs.Describing.{fitting-roomy, fits_places, tiled_count, described_tiled}
use mathlib.Core.Path.{sym, ◌∙◌}
use lib.Seq.{length-take-le}
use native.Mathlib.Omega.{arith}
use Rattle.tiles.proofs.describe.tile_descriptions.Goals as goal

pub write_tiles-count-requires : goal.write_tiles-count-requires
write_tiles-count-requires c =
    fitting-roomy _ _ _ _ _ (sym c.is_fitting.ensures ∙ c.if-not-is_fitting.false) (omega arith) (omega arith) (omega arith)

pub slice_bounds-times-end : goal.slice_bounds-times-end
slice_bounds-times-end c =
    tiled_count _ _ _ _ c.args.places.now (sym c.is_fitting.ensures ∙ c.if-not-is_fitting.false) (omega arith) c.write_tiles-count.ensures

pub slice_bounds-write_places-end : goal.slice_bounds-write_places-end
slice_bounds-write_places-end c =
    sym (length-take-le c.write_tiles-count.result c.write_tiles-count.new.times (tiled_count _ _ _ _ c.args.places.now (sym c.is_fitting.ensures ∙ c.if-not-is_fitting.false) (omega arith) c.write_tiles-count.ensures))

pub write_places-requires : goal.write_places-requires
write_places-requires c =
    fits_places _ _ _ _ _ (sym c.is_fitting.ensures ∙ c.if-not-is_fitting.false)

pub returns : goal.returns
returns c =
    described_tiled _ _ _ _ _ (sym c.is_fitting.ensures ∙ c.if-not-is_fitting.false) (omega arith) c.write_tiles-count.ensures c.write_places.ensures
