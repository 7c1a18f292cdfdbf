-- A shape with these attributes.
use Rattle.ciel_look_sheet.proofs.sheet.put_path.Goals as goal

pub returns : goal.returns
returns c = record { put = (c.put_dashes.new.attributes, c.in_ok-put_leaf.ensures.put) }
