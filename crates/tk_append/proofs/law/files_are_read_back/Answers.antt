use Rattle.tk_append.proofs.Restoring.{reads_back, torn_kept, file_kept, kept_less}
use Rattle.tk_append.proofs.law.files_are_read_back.Goals as goal

pub returns-clause-whole : goal.returns-clause-whole
returns-clause-whole c = reads_back

pub returns-clause-torn : goal.returns-clause-torn
returns-clause-torn c = torn_kept

pub returns-clause-files : goal.returns-clause-files
returns-clause-files c = file_kept

pub returns-clause-fronts : goal.returns-clause-fronts
returns-clause-fronts c = kept_less
