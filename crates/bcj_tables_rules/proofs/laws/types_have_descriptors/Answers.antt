use Rattle.bcj_tables_rules.proofs.laws.types_have_descriptors.Goals as goal
use Rattle.bcj_tables_rules.proofs.DescriptorLaws as law

pub returns : goal.returns
returns c = record { passes = law.described_is_type; only = law.type_is_described }
