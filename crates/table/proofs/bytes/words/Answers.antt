use Rattle.std.proofs.Common.{rules}
use Rattle.table.proofs.Words.{words_chunks}
use Rattle.table.proofs.bytes.words.Goals as goal

pub returns : goal.returns
returns c = rw words_chunks (search rules)
