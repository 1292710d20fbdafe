use Rattle.builder.proofs.Pieces.{stays_more}
use Rattle.builder.proofs.styled_str.StyledStr.push_styled.Goals as goal

pub returns-clause-stays : goal.returns-clause-stays
returns-clause-stays c = stays_more _ _ _ c.in_ok-push_str.ensures.stays (stays_more _ _ _ c.in_ok-push_str-2.ensures.stays c.push_str-4.ensures.stays)
