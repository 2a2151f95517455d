-- `Message::line` meets its contract: a line of two numbers, of a name, or a word.
-- Assumes nothing.
use Rattle.std.proofs.Common.{arith}
use Rattle.binding.specs.Said.{unread_word, unwritten_word, bad_id_word, usage_line}
use Rattle.binding.specs.laws.Said.{name_length}
use Rattle.binding.proofs.Message.line.Goals as goal

pub returns-in-Unread-clause-size : goal.returns-in-Unread-clause-size
returns-in-Unread-clause-size c = rw c.in-Unread.is (omega (arith, name_length unread_word c.in-Unread.file.now))

pub returns-in-Unwritten-clause-size : goal.returns-in-Unwritten-clause-size
returns-in-Unwritten-clause-size c = rw c.in-Unwritten.is (omega (arith, name_length unwritten_word c.in-Unwritten.log.now))

pub returns-in-BadId-clause-size : goal.returns-in-BadId-clause-size
returns-in-BadId-clause-size c = rw c.in-BadId.is (omega (arith, name_length bad_id_word c.in-BadId.given.now))

pub returns-in-Usage-clause-puts : goal.returns-in-Usage-clause-puts
unfolding usage_line
returns-in-Usage-clause-puts c = rw c.in-Usage.is c.word.ensures

pub returns-in-Usage-clause-size : goal.returns-in-Usage-clause-size
unfolding usage_line
returns-in-Usage-clause-size c = rw c.in-Usage.is (omega arith)
