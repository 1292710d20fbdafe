use Rattle.account.proofs.Accounts.{one_reading, reading_without_roles, gap_as_line}
use Rattle.account.proofs.reading.one_reading.Goals as goal

pub returns : goal.returns
returns c = record { tidy = one_reading; erased = reading_without_roles; proper = gap_as_line }
