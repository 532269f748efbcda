use Rattle.std.proofs.Common.{◌≡◌, ◌<◌, take}
use Rattle.std.specs.List.{fold}
use Rattle.bcj_layout_resolution.specs.Index.{hash_limit, hash_step}
use Rattle.bcj_layout_resolution.proofs.index.hash.Given as goal

abbrev pub invariant-loop-byte : goal.invariant-loop-byte
invariant-loop-byte l = record { sum : l.sum ≡ fold hash_step 0 (take l.byte-index l.byte-items); small : l.sum < hash_limit }
