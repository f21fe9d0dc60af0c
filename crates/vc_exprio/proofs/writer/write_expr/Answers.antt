use Rattle.std.proofs.Common.{rules, ◌≡◌, length, string_bytes}
use Rattle.std.proofs.lemmas.Str.{IsUtf8-string_bytes}
use Rattle.vc_exprio.proofs.writer.write_expr.Goals as goal

pub cut_back-requires : goal.cut_back-requires
cut_back-requires g c =
    let e : length (string_bytes c.args.into.now) ≡ c.len-length.result = search rules in
    (string_bytes c.args.into.now, IsUtf8-string_bytes c.args.into.now, e, c.push_expr-written.ensures.front)
