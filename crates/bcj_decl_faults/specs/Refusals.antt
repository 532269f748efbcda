-- Faults as the rules have them.
use Rattle.bcj_decl_rules.specs.Faults as rules
use Rattle.bcj_decl_faults.specs.declared.fault.Refusal.{Refusal}
use Rattle.bcj_decl_faults.specs.declared.fault.Refusal.TheVariants.{Duplicate, Unknown, BadHierarchy, BadMember}
use Rattle.bcj_decl_faults.specs.declared.fault.Found.{Found}
use Rattle.bcj_decl_faults.specs.declared.fault.Fault.{Fault}
use Rattle.bcj_decl_faults.specs.Spots.{Spot}

abbrev pub refusal_of : Refusal → rules.Refusal
refusal_of (Duplicate name) = rules.duplicate name
refusal_of (Unknown name) = rules.unknown name
refusal_of BadHierarchy = rules.bad_hierarchy
refusal_of BadMember = rules.bad_member

abbrev pub spot_of : Found → Spot
spot_of f = record { at = f.at; refusal = refusal_of f.refusal }

abbrev pub place_of_fault : Fault → rules.Place
place_of_fault f = record { file = f.file; at = f.at }
