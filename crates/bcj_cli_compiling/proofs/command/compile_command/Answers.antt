use Rattle.std.proofs.Common.{◌≡◌, sym, ◌∙◌, subst, inr, arith, string_bytes}
use Rattle.bcj_cli_compile.specs.Answers.{GiveNone, IsStop}
use Rattle.bcj_cli_compiling.specs.function.Named.{named_in}
use Rattle.bcj_cli_compiling.proofs.Named.{for_asked}
use Rattle.bcj_cli_compiling.proofs.Outcomes.{unread_known, accepted_known, refused_known, unread_in_part, unwritten, uncompiled_in_part, word_is_there}
use Rattle.bcj_cli_compiling.proofs.TextsRead.{are_short}
use Rattle.bcj_cli_compiling.proofs.command.compile_command.Goals as goal

pub returns-in-Err-clause-fault : goal.returns-in-Err-clause-fault
returns-in-Err-clause-fault g c =
    for_asked c.args.words.now _
    (λ is. inr (c.refuse_read.ensures.fault is, c.read_sources.ensures.held, unread_in_part (g.F.Files.held c.args.files.now) (named_in c.args.words.now) _ _ c.in-Err.unread.file.now _ _ c.in-Err.unread.stop c.in-Err.ensures.stopped c.refuse_read.ensures.part))

pub returns-in-Err-clause-status : goal.returns-in-Err-clause-status
returns-in-Err-clause-status g c =
    unread_known (g.F.Files.held c.args.files.now) c.args.words.now _ _ c.in-Err.unread.file.now _ c.in-Err.unread.stop c.in-Err.ensures.stopped c.refuse_read.ensures.status

pub compile-requires-clause-short : goal.compile-requires-clause-short
compile-requires-clause-short g c = are_short (g.F.Files.held c.args.files.now) (named_in c.args.words.now).files c.in-Ok.sources c.in-Ok.ensures.ok

pub returns-in-Ok-compile-clause-fault : goal.returns-in-Ok-compile-clause-fault
returns-in-Ok-compile-clause-fault g c =
    for_asked c.args.words.now _
    (λ is. unwritten (g.F.Files.held c.args.files.now) (g.F.Files.held c.read_sources.new.files) (g.F.Files.held c.write_object.new.files) c.args.words.now c.in-Ok.sources c.in-Ok-compile.object
    (g.F.Files.write_faults c.args.files.now) (g.F.Files.write_faults c.read_sources.new.files) (g.F.Files.write_faults c.write_object.new.files) _ _ _ c.in-Ok.ensures.ok c.in-Ok-compile.ensures.ok
    c.read_sources.ensures.held c.read_sources.ensures.write_later (c.write_object.ensures.fault is))

pub returns-in-Ok-compile-clause-status : goal.returns-in-Ok-compile-clause-status
returns-in-Ok-compile-clause-status g c =
    accepted_known (g.F.Files.held c.args.files.now) c.args.words.now c.in-Ok.sources c.in-Ok-compile.ensures.ok.unit _ _ c.in-Ok.ensures.ok c.in-Ok-compile.ensures.ok.accepted c.write_object.ensures.status

pub unreachable-requires-in_default-get : goal.unreachable-requires-in_default-get
unreachable-requires-in_default-get g c =
    let gives = subst (IsStop c.in-Ok.sources 0) c.in-Err-Refused.field-0-is c.in-Err-Refused.ensures.stopped in
    let found = c.in_default-get.ensures.found.1 (word_is_there (g.F.Files.held c.args.files.now) c.args.words.now c.in-Ok.sources c.in-Err-Refused.file _ _ c.in-Ok.ensures.ok gives) in
    cc

pub returns-in-Err-Refused-clause-fault : goal.returns-in-Err-Refused-clause-fault
returns-in-Err-Refused-clause-fault g c =
    let gives = subst (IsStop c.in-Ok.sources 0) c.in-Err-Refused.field-0-is c.in-Err-Refused.ensures.stopped in
    let told = subst (λ k. GiveNone c.in-Ok.sources 0 c.in-Err-Refused.file c.in-Err-Refused.at k) (sym c.as_str.ensures.value) gives in
    for_asked c.args.words.now _
    (λ is. inr (
      c.refuse_source.ensures.fault is,
      c.read_sources.ensures.held,
      uncompiled_in_part (g.F.Files.held c.args.files.now) c.args.words.now c.in-Ok.sources c.in-Err-Refused.file c.in-Err-Refused.at c.in-Some-get.name.now c.as_str.result.now _ _ c.in-Ok.ensures.ok told
          c.in-Some-get.ensures.value c.refuse_source.ensures.part,
    ))

pub returns-in-Err-Refused-clause-status : goal.returns-in-Err-Refused-clause-status
returns-in-Err-Refused-clause-status g c =
    let gives = subst (IsStop c.in-Ok.sources 0) c.in-Err-Refused.field-0-is c.in-Err-Refused.ensures.stopped in
    refused_known (g.F.Files.held c.args.files.now) c.args.words.now c.in-Ok.sources _ _ c.in-Ok.ensures.ok gives.none c.refuse_source.ensures.status
