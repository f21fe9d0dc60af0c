-- What the parser answers is the line of the words.
use Rattle.std.proofs.Common.{◌≡◌, ◌∙◌, ◌≤◌, ◌<◌, ◌^◌, sym, ap, ap₂, subst, arith, rules, map, length, List, [], string_bytes}
use Rattle.std.specs.Prelude.{option_map, option_and_then}
use Rattle.std.proofs.lemmas.List.{length-map}
use Rattle.clap.specs.Lexer.{usize_max}
use Rattle.clap.specs.Faults.{fault_of, is_simple_and_free}
use Rattle.clap.specs.Matches.{found_of}
use Rattle.clap.specs.Walk.{Text, rows_of}
use Rattle.clap.specs.Simple.{App, app_of, is_simple, matches_of}
use Rattle.vc_command.specs.declared.request.RequestFault.TheVariants.{Usage}
use Rattle.vc_command.specs.Parsers.{app}
use Rattle.vc_command.specs.Requests.{line_request}
use Rattle.vc_command.proofs.Uses.{HasRows}
use Rattle.vc_command.proofs.Rows.{listed}
use Rattle.vc_command.proofs.Loose.{request_of-loose}
use Rattle.vc_command.proofs.Parses.{app_is_free, app_is_simple, has_fault, limits_are, no_request, orders_are, plain_is, reads_line, strings_are_texts}
use Rattle.vc_command.proofs.line.Line.read.Goals.{in-Some+in_ok-plain-in-Some, in-None}
use Rattle.vc_command.proofs.line.Line.read.Goals as goal

pub returns-in-Err-clause-usage : goal.returns-in-Err-clause-usage
returns-in-Err-clause-usage c =
    let items : length c.args.words.now < 2 ^ 64 = search rules in
    let words : List Text = map string_bytes c.args.words.now in
    let most : length words ≤ usize_max = omega (arith, length-map c.args.words.now string_bytes) in
    let parser_is : app_of c.in_ok-parser.field-0 ≡ app = c.in_ok-parser.ensures in
    λ usage. let is_usage : c.fault.result ≡ Usage = cc in no_request words (strings_are_texts c.args.words.now) most (λ none.
    has_fault (fault_of (app_of c.in_ok-parser.field-0) words) c.in-Err.error (c.in-Err.ensures.kinds (ap is_simple_and_free parser_is ∙ app_is_free)) (c.fault.ensures is_usage)
    (ap (λ (a : App). fault_of a words) parser_is ∙ none))

pub returns-clause-ok : goal.returns-clause-ok
returns-clause-ok c =
    let items : length c.args.words.now < 2 ^ 64 = search rules in
    let words : List Text = map string_bytes c.args.words.now in
    let most : length words ≤ usize_max = omega (arith, length-map c.args.words.now string_bytes) in
    let parser_is : app_of c.in_ok-parser.field-0 ≡ app = c.in_ok-parser.ensures in
    let none : fault_of app words ≡ [] =
    ap (λ (a : App). fault_of a words) (sym parser_is) ∙ c.in-Ok.ensures.kinds (ap is_simple_and_free parser_is ∙ app_is_free) in
    let read = reads_line words (strings_are_texts c.args.words.now) most none in
    let rows_is : rows_of (found_of c.in-Ok.matches) ≡ matches_of app words =
    (c.in-Ok.ensures.matches (ap is_simple parser_is ∙ app_is_simple)).0 ∙ ap (λ (a : App). matches_of a words) parser_is in
    let has : HasRows (rows_of (found_of c.in-Ok.matches)) read.line = subst (λ rows. HasRows rows read.line) (sym rows_is) read.has in
    let limits = limits_are (found_of c.in-Ok.matches) read.line has (option_map (λ s. s.now) c.get_str.result) c.get_str.ensures in
    let orders = orders_are (found_of c.in-Ok.matches) read.line has (option_map (λ s. s.now) c.get_str-2.result) c.get_str-2.ensures in
    let plain = plain_is (found_of c.in-Ok.matches) read.line has (option_map (λ s. map (λ t. t.now) s.now) c.get_strs.result) c.get_strs.ensures in
    let items_are : map (λ s. s.now) c.match-get_strs.plain.items ≡ read.line.plain = elim c.match-get_strs.branch [
      | in-Some+in_ok-plain-in-Some w ↦ rw (w.plain-is, w.in_ok-plain-in-Some.ensures.items) (ap (λ o. listed (option_map (λ s. map (λ t. t.now) s.now) o)) (sym w.in-Some.is) ∙ plain)
      | in-None w ↦ rw (w.plain-is, w.new-plain.ensures.items) (ap (λ o. listed (option_map (λ s. map (λ t. t.now) s.now) o)) (sym w.in-None.is) ∙ plain)
    ] in
    request_of-loose words ∙ ap (option_and_then line_request) read.is ∙ sym (ap₂ (λ (xs : List Text) (p : List Text × List Text). line_request (record { plain = xs; limits = p.0; orders = p.1 })) items_are (ap₂ (λ a b. (a, b)) limits orders))
