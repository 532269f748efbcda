-- What files and a sink in memory are seen as, and what each call makes of them.
use Rattle.std.specs.Prelude.{ℕ, ◌+◌, ◌-◌, ◌==◌, nat_lt, nat_le, Bool, false, cond, List, [], ◌++◌, length, take, min, Option, Some, None, refl}
use Rattle.std.specs.Coded.{Coded, code_by, coded×, coded_ℕ, coded_list}
use Rattle.std.specs.FinMap as map
use Rattle.std.specs.List.{list_any}
use Rattle.std.specs.Ordering.{nat_cmp}
use Rattle.std.specs.Cmp.Lexicographic.{slice_cmp}
use Rattle.bcj_edge.specs.Causes.{raised}
use Rattle.bcj_edge.specs.Store.{Store}

-- files in memory: what each name has, the numbers of the calls that shall fail, how many calls there
-- were, and the faults
pub record FilesState : Type 0 where
  pub files : Store
  pub named : List ℕ
  pub calls : ℕ
  pub read_faults : ℕ
  pub absents : ℕ
  pub overs : ℕ
  pub write_faults : ℕ

-- stored as the tuple of its fields
abbrev pub files_code : Coded FilesState
files_code =
    code_by (Store × (List ℕ × (ℕ × (ℕ × (ℕ × (ℕ × ℕ))))))
    (coded× (map.code {R = slice_cmp nat_cmp} (coded_list coded_ℕ) (coded_list coded_ℕ)) (coded× (coded_list coded_ℕ) (coded× coded_ℕ (coded× coded_ℕ (coded× coded_ℕ (coded× coded_ℕ coded_ℕ))))))
    (λ s. (s.files, (s.named, (s.calls, (s.read_faults, (s.absents, (s.overs, s.write_faults)))))))
    (λ p. record { files = p.0; named = p.1.0; calls = p.1.1.0; read_faults = p.1.1.1.0; absents = p.1.1.1.1.0; overs = p.1.1.1.1.1.0; write_faults = p.1.1.1.1.1.1 })
    (λ _. refl)

-- no file, no call and no fault yet
abbrev pub no_files : FilesState
no_files = record { files = map.empty; named = []; calls = 0; read_faults = 0; absents = 0; overs = 0; write_faults = 0 }

-- whether the next call was named to fail: calls count from 1
abbrev pub next_fails : FilesState → Bool
next_fails s = list_any (λ n. n == raised s.calls) s.named

-- the state once the next call is counted
abbrev pub counted : FilesState → FilesState
counted s = record s { calls = raised s.calls }

-- a read that isn't named to fail: what it leaves, by what stands under the name
abbrev pub looked_up : FilesState → ℕ → Option (List ℕ) → FilesState
looked_up s limit None = record s { absents = raised s.absents }
looked_up s limit (Some bytes) = cond (nat_lt limit (length bytes)) (record s { overs = raised s.overs }) s

-- what a read leaves
abbrev pub after_read : FilesState → List ℕ → ℕ → FilesState
after_read s name limit =
    cond (next_fails s) (record (counted s) { read_faults = raised s.read_faults }) (looked_up (counted s) limit (map.get s.files name))

-- what a write leaves that is answered Ok
abbrev pub after_write : FilesState → List ℕ → List ℕ → FilesState
after_write s name bytes = record (counted s) { files = map.insert s.files name bytes }

-- what a write leaves that failed
abbrev pub after_failed_write : FilesState → FilesState
after_failed_write s = record (counted s) { write_faults = raised s.write_faults }

-- a sink in memory: what it took, how much it may hold, the number of the put that shall fail, how many
-- puts there were, and the faults
pub record SinkState : Type 0 where
  pub bytes : List ℕ
  pub room : ℕ
  pub fail : Option ℕ
  pub puts : ℕ
  pub faults : ℕ

-- whether the number is the one that was named
abbrev pub is_named : Option ℕ → ℕ → Bool
is_named None n = false
is_named (Some m) n = m == n

-- whether the next put is the one that shall fail: puts count from 1
abbrev pub next_put_fails : SinkState → Bool
next_put_fails s = is_named s.fail (raised s.puts)

-- how much of a piece of n bytes the next put takes
abbrev pub part_taken : SinkState → ℕ → ℕ
part_taken s n = cond (next_put_fails s) 0 (min n (s.room - length s.bytes))

-- whether the next put takes a piece of n bytes whole and doesn't fail
abbrev pub takes_whole : SinkState → ℕ → Bool
takes_whole s n = cond (next_put_fails s) false (nat_le (length s.bytes + n) s.room)

-- what a put leaves
abbrev pub after_put : SinkState → List ℕ → SinkState
after_put s piece = record s {
  bytes = s.bytes ++ take (part_taken s (length piece)) piece;
  puts = raised s.puts;
  faults = cond (takes_whole s (length piece)) s.faults (raised s.faults);
}
