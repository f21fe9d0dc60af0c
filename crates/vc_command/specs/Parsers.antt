-- What the parser of command lines is told.
use Rattle.std.specs.Prelude.{[], Some, true, codes}
use Rattle.clap.specs.Lexer.{usize_max}
use Rattle.clap.specs.Walk.{Rule}
use Rattle.clap.specs.Simple.{App, Shape, new_rule, new_shape, with_rule}
use Rattle.clap.specs.declared.builder.action.ArgAction.TheVariants.{Append}

-- an option with one value
abbrev pub limit_rule : Rule
limit_rule = record (new_rule (codes "limit")) { long = Some (codes "limit") }

abbrev pub order_rule : Rule
order_rule = record (new_rule (codes "order")) { long = Some (codes "order") }

-- the last positional, with several values
abbrev pub words_rule : Rule
words_rule = record (new_rule (codes "words")) {
  action = Some Append;
  range = Some (record { start_inclusive = 1; end_inclusive = usize_max });
}

-- one simple command, without a help flag, a version flag or a program's name among its words
abbrev pub shape : Shape
shape = record (new_shape (codes "vcsnr")) {
  no_binary_name = true;
  disable_help_flag = true;
  disable_version_flag = true;
}

abbrev pub app : App
app = with_rule (with_rule (with_rule (record { top = shape; subs = [] }) limit_rule) order_rule) words_rule
