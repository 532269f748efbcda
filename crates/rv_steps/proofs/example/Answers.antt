use Rattle.rv_steps.proofs.Countdown as rows
use Rattle.rv_steps.proofs.example.Goals as goal

pub returns : goal.returns
returns c = record { above = rows.row; below = rows.row_below }
