use Rattle.bcj_tables_rules.proofs.laws.methods_have_descriptors.Goals as goal
use Rattle.bcj_tables_rules.proofs.DescriptorLaws as law

pub returns : goal.returns
returns c = record { passes = law.described_is_method; only = law.method_is_described }
