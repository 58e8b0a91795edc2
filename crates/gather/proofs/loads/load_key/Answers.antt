use Rattle.gather.proofs.Loading.{key_input, key_output, key_loaded}
use Rattle.gather.proofs.loads.load_key.Goals as goal

pub load_edits-input-requires : goal.load_edits-input-requires
load_edits-input-requires c = key_input c.requires

pub load_edits-output-requires : goal.load_edits-output-requires
load_edits-output-requires c = key_output c.requires c.load_edits-input.auto.joined c.load_edits-input.auto.places

pub returns : goal.returns
returns c = key_loaded c.requires _ _ _ _ _ _ _ c.load_edits-input.auto.values c.load_edits-input.auto.times c.load_edits-input.auto.diffs c.load_edits-output.auto.values c.load_edits-output.auto.times c.load_edits-output.auto.diffs c.meets_back.ensures c.load_edits-input.ensures c.load_edits-output.ensures
