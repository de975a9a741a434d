-- The form says the line's call; each case is that call and the text of its answer.
use Rattle.std.proofs.Common.{rules}
use Rattle.applying.proofs.Applying.{calls, bad}
use Rattle.applying.proofs.perform.Goals as goal

pub returns-in_default : goal.returns-in_default
returns-in_default c = bad c.requires c.write_bad.ensures (search rules)

pub returns-in-Format : goal.returns-in-Format
returns-in-Format c = calls c.requires c.format.ensures c.write_written.ensures (search rules)

pub returns-in-Put : goal.returns-in-Put
returns-in-Put c = calls c.requires c.put.ensures c.write_written-in-Put.ensures (search rules)

pub returns-in-Get : goal.returns-in-Get
returns-in-Get c = calls c.requires c.get.ensures c.write_answer.ensures (search rules)

pub returns-in-Del : goal.returns-in-Del
returns-in-Del c = calls c.requires c.del.ensures c.write_written-in-Del.ensures (search rules)

pub returns-in-Flush : goal.returns-in-Flush
returns-in-Flush c = calls c.requires c.flush.ensures c.write_written-in-Flush.ensures (search rules)

pub returns-in-Count : goal.returns-in-Count
returns-in-Count c = calls c.requires c.count.ensures c.write_written-in-Count.ensures (search rules)

pub returns-in-Drop : goal.returns-in-Drop
returns-in-Drop c = calls c.requires c.drop.ensures c.write_written-in-Drop.ensures (search rules)
