use Rattle.std.proofs.Common.{◌≡◌, ◌<◌, ◌-◌, ℕ, List, take, drop, ap, ◌∙◌, arith, length}
use Rattle.sky_base.specs.declared.script.FunDef.{FunDef}
use Rattle.sky_parse_grammar.specs.Lifted.{uses_of}
use Rattle.sky_parse_held.specs.Held.{Held, close_in}
use Rattle.sky_parse_held.proofs.MadeLaw.{body_set, funs_length, held_funs, read_twice, take_rest}
use Rattle.sky_parse_held.proofs.made.Made.close.Goals as goal

pub index-requires : goal.index-requires
index-requires c = omega (
  arith,
  funs_length c.self.inside.funs.items,
  ap (λ (h : Held). length h.funs) c.self.view_is,
  c.requires.number,
  c.self.inside.funs.ok.0,
)

pub index_mut-fun-requires : goal.index_mut-fun-requires
index_mut-fun-requires c = omega (
  arith,
  funs_length c.self.inside.funs.items,
  ap (λ (h : Held). length h.funs) c.self.view_is,
  c.requires.number,
  c.self.inside.funs.ok.0,
)

pub returns : goal.returns
returns c =
    let fs = c.self.inside.funs.items in
    let f = c.index_mut-fun.result.now in
    let inside : c.args.number < length fs = omega (arith, funs_length fs, ap (λ (h : Held). length h.funs) c.self.view_is, c.requires.number) in
    let names = c.self.inside.names.items in
    let d = read_twice fs c.args.number c.index.result.now f inside c.index.ensures c.index_mut-fun.ensures.value in
    let params : c.as_slice.result.now ≡ f.params = c.as_slice.ensures ∙ ap (λ (g : FunDef). g.params) d in
    let inner : take (length c.deref.result.now - c.args.from) (drop c.args.from c.deref.result.now) ≡ drop c.args.from names =
    ap (λ (ns : List (List ℕ)). take (length ns - c.args.from) (drop c.args.from ns)) c.deref.ensures.value ∙ take_rest c.args.from names in
    let us : c.in_ok-uses.uses ≡ uses_of f.params (drop c.args.from names) = c.in_ok-uses.ensures ∙ (λ i. uses_of (params i) (inner i)) in
    let funs = body_set fs c.args.number f f c.args.body c.in_ok-uses.uses (drop c.args.from names) inside c.index_mut-fun.ensures.value us in
    held_funs funs ∙ ap (close_in c.args.number c.args.from c.args.body) c.self.view_is
