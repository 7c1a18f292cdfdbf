use Rattle.sky_base.specs.TreeView.{exp_view}
use Rattle.sky_base_law.specs.Nodes.{node_at}
use Rattle.sky_machine_entries.specs.Config.{body_in}
use Rattle.sky_machine_entries.specs.Entries.{forms}
use Rattle.sky_machine_loop.proofs.Begins.{leaf_so, begins_so, parts_so, has_so}
use Rattle.sky_machine_loop.proofs.begin.begin.Goals as goal

pub returns-in_ok-literal-in-Literal-clause-same : goal.returns-in_ok-literal-in-Literal-clause-same
returns-in_ok-literal-in-Literal-clause-same g c = λ w h.
    leaf_so w (g.N.Namer.digest c.args.ground.now.namer.now) c.args.made.now.items c.args.entries.now.items _ (exp_view c.args.e.now) c.args.node
    (rw c.in-Literal.is at c.shape_of.ensures) c.args.state.now c.literal.new.state c.in_ok-literal-in-Literal.field-0
    (c.in_ok-literal-in-Literal.ensures.same w (body_in w (forms c.args.entries.now.items)) c.args.node)

pub returns-in_ok-name-in-Name-clause-same : goal.returns-in_ok-name-in-Name-clause-same
returns-in_ok-name-in-Name-clause-same g c = λ w h.
    leaf_so w (g.N.Namer.digest c.args.ground.now.namer.now) c.args.made.now.items c.args.entries.now.items _ (exp_view c.args.e.now) c.args.node
    (rw c.in-Name.is at c.shape_of.ensures) c.args.state.now c.name.new.state c.in_ok-name-in-Name.field-0
    (c.in_ok-name-in-Name.ensures.same w (body_in w (forms c.args.entries.now.items)) c.args.node h.script)

pub returns-in_ok-function-in-Function-clause-same : goal.returns-in_ok-function-in-Function-clause-same
returns-in_ok-function-in-Function-clause-same g c = λ w h.
    leaf_so w (g.N.Namer.digest c.args.ground.now.namer.now) c.args.made.now.items c.args.entries.now.items _ (exp_view c.args.e.now) c.args.node
    (rw c.in-Function.is at c.shape_of.ensures) c.args.state.now c.function.new.state c.in_ok-function-in-Function.field-0
    (c.in_ok-function-in-Function.ensures.same w (body_in w (forms c.args.entries.now.items)) c.args.node h.script)

pub begin_parens-requires-clause-has : goal.begin_parens-requires-clause-has
begin_parens-requires-clause-has g c =
    has_so (λ i. node_at c.args.ground.now.code.now i) _ (exp_view c.args.e.now) c.args.node (rw c.in-Parens.is at c.shape_of.ensures) c.requires.has

pub returns-in_ok-control-in-Parens-clause-same : goal.returns-in_ok-control-in-Parens-clause-same
returns-in_ok-control-in-Parens-clause-same g c = λ w h.
    begins_so w (g.N.Namer.digest c.args.ground.now.namer.now) c.args.made.now.items c.args.entries.now.items _ (exp_view c.args.e.now)
    c.args.node (rw c.in-Parens.is at c.shape_of.ensures) c.begin_parens.new.entries.items c.in_ok-control-in-Parens.control c.args.state.now
    c.args.state.now (c.in_ok-control-in-Parens.ensures.same w c.args.state.now)

pub begin_parts-requires-clause-has : goal.begin_parts-requires-clause-has
begin_parts-requires-clause-has g c =
    has_so (λ i. node_at c.args.ground.now.code.now i) _ (exp_view c.args.e.now) c.args.node (rw c.in-Parts.is at c.shape_of.ensures) c.requires.has

pub returns-in_ok-control-in-Parts-clause-same : goal.returns-in_ok-control-in-Parts-clause-same
returns-in_ok-control-in-Parts-clause-same g c = λ w h.
    parts_so w (g.N.Namer.digest c.args.ground.now.namer.now) c.args.made.now.items c.args.entries.now.items _ (exp_view c.args.e.now)
    c.args.node (rw c.in-Parts.is at c.shape_of.ensures) c.begin_parts.new.made.items c.begin_parts.new.entries.items
    c.in_ok-control-in-Parts.control c.args.state.now c.begin_parts.new.state (c.in_ok-control-in-Parts.ensures.same w h)

pub begin_links-requires-clause-has : goal.begin_links-requires-clause-has
begin_links-requires-clause-has g c =
    has_so (λ i. node_at c.args.ground.now.code.now i) _ (exp_view c.args.e.now) c.args.node (rw c.in-Chain.is at c.shape_of.ensures) c.requires.has

pub returns-in_ok-control-in-Chain-clause-same : goal.returns-in_ok-control-in-Chain-clause-same
returns-in_ok-control-in-Chain-clause-same g c = λ w h.
    begins_so w (g.N.Namer.digest c.args.ground.now.namer.now) c.args.made.now.items c.args.entries.now.items _ (exp_view c.args.e.now)
    c.args.node (rw c.in-Chain.is at c.shape_of.ensures) c.begin_links.new.entries.items c.in_ok-control-in-Chain.control c.args.state.now
    c.begin_links.new.state (c.in_ok-control-in-Chain.ensures.same w h.script)

pub begin_logic-requires-clause-has : goal.begin_logic-requires-clause-has
begin_logic-requires-clause-has g c =
    has_so (λ i. node_at c.args.ground.now.code.now i) _ (exp_view c.args.e.now) c.args.node (rw c.in-Logic.is at c.shape_of.ensures) c.requires.has

pub returns-in_ok-control-in-Logic-clause-same : goal.returns-in_ok-control-in-Logic-clause-same
returns-in_ok-control-in-Logic-clause-same g c = λ w h.
    begins_so w (g.N.Namer.digest c.args.ground.now.namer.now) c.args.made.now.items c.args.entries.now.items _ (exp_view c.args.e.now)
    c.args.node (rw c.in-Logic.is at c.shape_of.ensures) c.begin_logic.new.entries.items c.in_ok-control-in-Logic.control c.args.state.now
    c.args.state.now (c.in_ok-control-in-Logic.ensures.same w c.args.state.now)

pub begin_prefix-requires-clause-has : goal.begin_prefix-requires-clause-has
begin_prefix-requires-clause-has g c =
    has_so (λ i. node_at c.args.ground.now.code.now i) _ (exp_view c.args.e.now) c.args.node (rw c.in-Prefix.is at c.shape_of.ensures) c.requires.has

pub returns-in_ok-control-in-Prefix-clause-same : goal.returns-in_ok-control-in-Prefix-clause-same
returns-in_ok-control-in-Prefix-clause-same g c = λ w h.
    begins_so w (g.N.Namer.digest c.args.ground.now.namer.now) c.args.made.now.items c.args.entries.now.items _ (exp_view c.args.e.now)
    c.args.node (rw c.in-Prefix.is at c.shape_of.ensures) c.begin_prefix.new.entries.items c.in_ok-control-in-Prefix.control c.args.state.now
    c.args.state.now (c.in_ok-control-in-Prefix.ensures.same w c.args.state.now)

pub begin_postfix-requires-clause-has : goal.begin_postfix-requires-clause-has
begin_postfix-requires-clause-has g c =
    has_so (λ i. node_at c.args.ground.now.code.now i) _ (exp_view c.args.e.now) c.args.node (rw c.in-Postfix.is at c.shape_of.ensures) c.requires.has

pub returns-in_ok-control-in-Postfix-clause-same : goal.returns-in_ok-control-in-Postfix-clause-same
returns-in_ok-control-in-Postfix-clause-same g c = λ w h.
    begins_so w (g.N.Namer.digest c.args.ground.now.namer.now) c.args.made.now.items c.args.entries.now.items _ (exp_view c.args.e.now)
    c.args.node (rw c.in-Postfix.is at c.shape_of.ensures) c.begin_postfix.new.entries.items c.in_ok-control-in-Postfix.control
    c.args.state.now c.args.state.now (c.in_ok-control-in-Postfix.ensures.same w c.args.state.now)

pub returns-in_ok-literal-in-Literal-clause-falls : goal.returns-in_ok-literal-in-Literal-clause-falls
returns-in_ok-literal-in-Literal-clause-falls g c = c.in_ok-literal-in-Literal.ensures.falls c.args.node c.args.entries.now.items

pub returns-in_ok-name-in-Name-clause-falls : goal.returns-in_ok-name-in-Name-clause-falls
returns-in_ok-name-in-Name-clause-falls g c = c.in_ok-name-in-Name.ensures.falls c.args.node c.args.entries.now.items

pub returns-in_ok-function-in-Function-clause-falls : goal.returns-in_ok-function-in-Function-clause-falls
returns-in_ok-function-in-Function-clause-falls g c = c.in_ok-function-in-Function.ensures.falls c.args.node c.args.entries.now.items
