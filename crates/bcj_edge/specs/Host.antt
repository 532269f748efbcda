-- The faults that the host's files count.
use Rattle.std.specs.Prelude.{ℕ, refl}
use Rattle.std.specs.Coded.{Coded, code_by, coded×, coded_ℕ}
use Rattle.bcj_edge.specs.Causes.{raised}
use Rattle.bcj_edge.specs.declared.store.ReadStop.{ReadStop}
use Rattle.bcj_edge.specs.declared.store.ReadStop.TheVariants.{Failed, TooLong, NoMemory, Absent}

pub record Faults : Type 0 where
  pub read_faults : ℕ
  pub absents : ℕ
  pub overs : ℕ
  pub write_faults : ℕ

-- stored as the tuple of its fields
abbrev pub faults_code : Coded Faults
faults_code =
    code_by (ℕ × (ℕ × (ℕ × ℕ))) (coded× coded_ℕ (coded× coded_ℕ (coded× coded_ℕ coded_ℕ)))
    (λ s. (s.read_faults, (s.absents, (s.overs, s.write_faults))))
    (λ p. record { read_faults = p.0; absents = p.1.0; overs = p.1.1.0; write_faults = p.1.1.1 })
    (λ _. refl)

abbrev pub no_faults : Faults
no_faults = record { read_faults = 0; absents = 0; overs = 0; write_faults = 0 }

-- the faults once a read that stopped so is counted
abbrev pub after_stop : Faults → ReadStop → Faults
after_stop s Failed = record s { read_faults = raised s.read_faults }
after_stop s TooLong = record s { overs = raised s.overs }
after_stop s NoMemory = s
after_stop s Absent = record s { absents = raised s.absents }
