use Rattle.std.proofs.Common.{true, Some, ap, ◌∙◌}
use Rattle.builder.specs.declared.styling.AnsiColor.{AnsiColor}
use Rattle.builder.specs.declared.styling.AnsiColor.TheVariants.{Red, Green, Yellow}
use Rattle.builder.specs.declared.styling.Style.{Style}
use Rattle.builder.specs.declared.styling.StyledRole.TheVariants.{Error, Valid, Invalid, Literal}
use Rattle.builder.proofs.styling.Styles.styled.Goals as goal

abbrev bolder : Style → Style
bolder s = record { bold = true; underline = s.underline; color = s.color }

abbrev colored : AnsiColor → Style → Style
colored k s = record { bold = s.bold; underline = s.underline; color = Some k }

pub returns : goal.returns
returns c Error =
    c.literal.ensures.others Error (λ e. cc) ∙ c.invalid.ensures.others Error (λ e. cc) ∙ c.valid.ensures.others Error (λ e. cc) ∙ c.error.ensures.here
    ∙ c.fg_color.ensures ∙ ap (colored Red) (c.bold.ensures ∙ ap bolder c.new.ensures)
returns c Valid = c.literal.ensures.others Valid (λ e. cc) ∙ c.invalid.ensures.others Valid (λ e. cc) ∙ c.valid.ensures.here ∙ c.fg_color-2.ensures ∙ ap (colored Green) c.new-2.ensures
returns c Invalid = c.literal.ensures.others Invalid (λ e. cc) ∙ c.invalid.ensures.here ∙ c.fg_color-3.ensures ∙ ap (colored Yellow) c.new-3.ensures
returns c Literal = c.literal.ensures.here ∙ c.bold-2.ensures ∙ ap bolder c.new-4.ensures
