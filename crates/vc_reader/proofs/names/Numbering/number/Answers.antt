use Rattle.std.proofs.Common.{◌≡◌, ◌<◌, ◌∙◌, ap, length, sym, subst, arith}
use Rattle.std.specs.List.{position_or_len}
use Rattle.std.specs.Str.{bytes_eq}
use Rattle.vc_model.specs.Lists.{In}
use Rattle.vc_reader.specs.NameSets.{AreNumbers}
use Rattle.vc_lines.specs.Names.{value_of}
use Rattle.vc_reader.proofs.FoundNames.{found_at, found_none}
use Rattle.vc_reader.proofs.PlaceNames.{number_is, place_below}
use Rattle.vc_reader.proofs.names.Numbering.number.Goals as goal

pub unreachable-requires : goal.unreachable-requires
unreachable-requires c =
    found_none c.name_of-name.result.now c.self.inside.names.keys c.in-None.ensures.index
    (subst (In c.name_of-name.result.now) (sym c.self.view_is) (subst (λ a. In a c.args.self.now) (sym c.name_of-name.ensures) c.requires.named))

pub returns-clause-value : goal.returns-clause-value
returns-clause-value c =
    found_at c.name_of-name.result.now c.self.inside.names.keys c.in-Some.number c.in-Some.ensures.index
    ∙ ap (position_or_len (bytes_eq c.name_of-name.result.now)) c.self.view_is
    ∙ ap (λ a. position_or_len (bytes_eq a) c.args.self.now) c.name_of-name.ensures

pub overflow_cast-result : goal.overflow_cast-result
overflow_cast-result c =
    let i : In c.name_of-name.result.now c.args.self.now = subst (λ a. In a c.args.self.now) (sym c.name_of-name.ensures) c.requires.named in
    let p : value_of c.name_of-name.result.now ≡ position_or_len (bytes_eq c.name_of-name.result.now) c.args.self.now = number_is c.name_of-name.result.now c.args.self.now (subst (AreNumbers 0) c.self.view_is (c.self.invariant c.if-self.true)) i in
    let q = place_below c.name_of-name.result.now c.args.self.now i in
    let v = c.value_of.ensures.value in
    let few = c.requires.few in
    omega (arith, p, q, v, few)

pub returns-then-is_number-clause-value : goal.returns-then-is_number-clause-value
returns-then-is_number-clause-value c =
    let i : In c.name_of-name.result.now c.args.self.now = subst (λ a. In a c.args.self.now) (sym c.name_of-name.ensures) c.requires.named in
    c.value_of.ensures.value
    ∙ number_is c.name_of-name.result.now c.args.self.now (subst (AreNumbers 0) c.self.view_is (c.self.invariant c.if-self.true)) i
    ∙ ap (λ a. position_or_len (bytes_eq a) c.args.self.now) c.name_of-name.ensures

pub returns-then-is_number-clause-below : goal.returns-then-is_number-clause-below
returns-then-is_number-clause-below c =
    let i : In c.name_of-name.result.now c.args.self.now = subst (λ a. In a c.args.self.now) (sym c.name_of-name.ensures) c.requires.named in
    let p : value_of c.name_of-name.result.now ≡ position_or_len (bytes_eq c.name_of-name.result.now) c.args.self.now = number_is c.name_of-name.result.now c.args.self.now (subst (AreNumbers 0) c.self.view_is (c.self.invariant c.if-self.true)) i in
    let q : position_or_len (bytes_eq c.name_of-name.result.now) c.args.self.now < length c.args.self.now = place_below c.name_of-name.result.now c.args.self.now i in
    let v : _ ≡ value_of c.name_of-name.result.now = c.value_of.ensures.value in
    omega (arith, p, q, v)
