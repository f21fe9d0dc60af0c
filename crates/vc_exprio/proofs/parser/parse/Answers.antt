use Rattle.std.proofs.Common.{rules, ◌≡◌, ◌+◌, ◌<◌, ◌^◌, Bool, [], map, length, take, drop, ap, sym, ◌∙◌, subst}
use Rattle.std.specs.Prelude.{slice_index_or}
use Rattle.std.specs.Vec.{vec_len}
use Rattle.vc_lex.specs.Marks.{Mark}
use Rattle.std.proofs.lemmas.Bool.{false≢true}
use Rattle.vc_lex.specs.declared.token.Token.{Token}
use Rattle.vc_lex.specs.declared.token.TokenKind.TheVariants.{Zero}
use Rattle.vc_exprio.specs.Flat.{Flat, parser_seen}
use Rattle.vc_exprio.specs.Fronts.{IsFaultAt}
use Rattle.vc_exprio.specs.Grammar.{SpellsTree}
use Rattle.vc_exprio.specs.Spelling.{is_weight_of}
use Rattle.vc_exprio.specs.Trees.{Tree}
use Rattle.vc_lex.specs.Views.{seen}
use Rattle.vc_exprio.specs.Views.{step_seen}
use Rattle.vc_exprio.proofs.ParserStates.{IsAt, starts_at, counts_fit_in, went_on, went_wrong, ended, unended, next_taken, cut_at, all_taken, is_none, is_some}
use Rattle.vc_exprio.proofs.parser.parse.Goals as goal

pub loop-token-init : goal.loop-token-init
loop-token-init g c =
    starts_at (is_weight_of g.S.Semiring.spelled) (map step_seen c.new.result.items) c.new-2.result.items (map seen c.new-3.result.items) (ap (map step_seen) c.new.ensures.items) c.new-2.ensures.items (ap (map seen) c.new-3.ensures.items)

pub read_token-requires-clause-factors : goal.read_token-requires-clause-factors
read_token-requires-clause-factors g c =
    let small : length c.args.tokens.now + 1 < 2 ^ 64 = search rules in
    (counts_fit_in (is_weight_of g.S.Semiring.spelled) seen c.args.tokens.now c.loop-token.token-index (2 ^ 64) (parser_seen c.loop-token.parser) c.loop-token.invariant small).1

pub read_token-requires-clause-members : goal.read_token-requires-clause-members
read_token-requires-clause-members g c =
    let small : length c.args.tokens.now + 1 < 2 ^ 64 = search rules in
    (counts_fit_in (is_weight_of g.S.Semiring.spelled) seen c.args.tokens.now c.loop-token.token-index (2 ^ 64) (parser_seen c.loop-token.parser) c.loop-token.invariant small).0

pub close_sum-requires-clause-factors : goal.close_sum-requires-clause-factors
close_sum-requires-clause-factors g c =
    let small : length c.args.tokens.now + 1 < 2 ^ 64 = search rules in
    (counts_fit_in (is_weight_of g.S.Semiring.spelled) seen c.args.tokens.now c.loop-token.token-index (2 ^ 64) (parser_seen c.loop-token.parser) c.loop-token.invariant small).1

pub close_sum-requires-clause-members : goal.close_sum-requires-clause-members
close_sum-requires-clause-members g c =
    let small : length c.args.tokens.now + 1 < 2 ^ 64 = search rules in
    (counts_fit_in (is_weight_of g.S.Semiring.spelled) seen c.args.tokens.now c.loop-token.token-index (2 ^ 64) (parser_seen c.loop-token.parser) c.loop-token.invariant small).0

pub returns-then-not-branch : goal.returns-then-not-branch
returns-then-not-branch g c =
    let i = c.loop-token.token-index in
    let d : Token = record { kind = Zero; text = record { ref_ptr = (0, 0); now = [] }; at = 0 } in
    let w : Mark → Bool = is_weight_of g.S.Semiring.spelled in
    subst (λ ms. ((t : Tree) → SpellsTree w ms t → ⊥) × IsFaultAt w c.args.end ms (slice_index_or c.args.tokens.now i d).at) (cut_at seen c.args.tokens.now i d c.loop-token-test.true)
    (went_wrong w (map seen (take i c.args.tokens.now)) (parser_seen c.loop-token.parser) (parser_seen c.read_token.new.parser) (seen (slice_index_or c.args.tokens.now i d)) (map seen (drop (i + 1) c.args.tokens.now)) c.args.end c.loop-token.invariant c.in_ok-read_token.ensures c.if-not-branch.true)

pub loop-token-preserved : goal.loop-token-preserved
loop-token-preserved g c =
    let i = c.loop-token.token-index in
    let d : Token = record { kind = Zero; text = record { ref_ptr = (0, 0); now = [] }; at = 0 } in
    let w : Mark → Bool = is_weight_of g.S.Semiring.spelled in
    subst (λ ms. IsAt w ms (parser_seen c.read_token.new.parser)) (sym (next_taken seen c.args.tokens.now i d c.loop-token-test.true))
    (went_on w (map seen (take i c.args.tokens.now)) (parser_seen c.loop-token.parser) (parser_seen c.read_token.new.parser) (seen (slice_index_or c.args.tokens.now i d)) c.loop-token.invariant c.in_ok-read_token.ensures c.if-not-branch.false)

pub returns-then-not-is_empty : goal.returns-then-not-is_empty
returns-then-not-is_empty g c =
    let w : Mark → Bool = is_weight_of g.S.Semiring.spelled in
    let all : take c.loop-token.token-index c.args.tokens.now ≡ c.args.tokens.now = all_taken c.args.tokens.now c.loop-token.token-index c.loop-token-test.false in
    let a : IsAt w (map seen c.args.tokens.now) (parser_seen c.loop-token.parser) = subst (λ ts. IsAt w (map seen ts) (parser_seen c.loop-token.parser)) all c.loop-token.invariant in
    let l : vec_len c.loop-token.parser.outer ≡ length c.loop-token.parser.outer.items = search rules in
    unended w (map seen c.args.tokens.now) (parser_seen c.loop-token.parser) c.args.end a (λ none read. is_some c.loop-token.parser.outer.items (vec_len c.loop-token.parser.outer) l c.if-not-is_empty.ensures none)

pub returns-then-not-is_read : goal.returns-then-not-is_read
returns-then-not-is_read g c =
    let w : Mark → Bool = is_weight_of g.S.Semiring.spelled in
    let all : take c.loop-token.token-index c.args.tokens.now ≡ c.args.tokens.now = all_taken c.args.tokens.now c.loop-token.token-index c.loop-token-test.false in
    let a : IsAt w (map seen c.args.tokens.now) (parser_seen c.loop-token.parser) = subst (λ ts. IsAt w (map seen ts) (parser_seen c.loop-token.parser)) all c.loop-token.invariant in
    unended w (map seen c.args.tokens.now) (parser_seen c.loop-token.parser) c.args.end a (λ none read. let k = c.if-not-is_read.ensures in absurd (false≢true (k ∙ read)))

pub returns : goal.returns
returns g c =
    let w : Mark → Bool = is_weight_of g.S.Semiring.spelled in
    let all : take c.loop-token.token-index c.args.tokens.now ≡ c.args.tokens.now = all_taken c.args.tokens.now c.loop-token.token-index c.loop-token-test.false in
    let a : IsAt w (map seen c.args.tokens.now) (parser_seen c.loop-token.parser) = subst (λ ts. IsAt w (map seen ts) (parser_seen c.loop-token.parser)) all c.loop-token.invariant in
    let l : vec_len c.loop-token.parser.outer ≡ length c.loop-token.parser.outer.items = search rules in
    let t = ended w (map seen c.args.tokens.now) (parser_seen c.loop-token.parser) a (is_none c.loop-token.parser.outer.items (vec_len c.loop-token.parser.outer) l c.if-not-is_empty.ensures) (sym c.is_read.ensures ∙ c.if-not-is_read.false) in
    (t.0, t.1, ap (λ (f : Flat). f.steps) c.in_ok-close_sum.ensures ∙ t.2)
