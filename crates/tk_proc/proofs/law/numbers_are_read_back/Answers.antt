use Rattle.tk_proc.proofs.ReplyLaws.{eight_bytes, read_back, next_reads}
use Rattle.tk_proc.proofs.law.numbers_are_read_back.Goals as goal

pub returns : goal.returns
returns c = record { eight = eight_bytes; number = read_back; next = next_reads }
