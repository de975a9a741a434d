-- One word for an `unfolding` line: it opens all that a list of calls is made of, so that its answers compute.
use Rattle.model.specs.Bytes.{word, bytes_of, write, within}
use Rattle.model.specs.Search.{first_from}
use Rattle.model.specs.Geometry.{is_power, allowed, most_entries, filter_at, buffer_at, stride, partition_at, memory_need, slot_page_at, flash_need}
use Rattle.model.specs.Opening.{geometry_of, with_opening}
use Rattle.model.specs.Keys.{partition_of, page_of, mixed, bit_of}
use Rattle.model.specs.Records.{staying, staying_bytes, closed_up}
use Rattle.model.specs.Page.{compared, appended, replaced, removed, stored, added, without, taken, emptied, numbered, expected}
use Rattle.model.specs.DeleteList.{enlisted, struck, expired, unexpired}
use Rattle.model.specs.Filter.{with_bit, passes, with_bits, with_entries, with_pages, filter_for}
use Rattle.model.specs.Partition.{with_head, totalled, is_live, slot_bits, batch_passes, passing_from, passing}
use Rattle.model.specs.Batch.{sum, pushes_out, failed_head, leaving, delisted}
use Rattle.model.specs.Refusals.{unopened, head_overfull, page_overfull, key_overfull, some_page_overfull, total_out}
use Rattle.model.specs.Format.{format_checks, emptied_pages, emptied_partitions, formatted}
use Rattle.model.specs.Flush.{due_checks, flush_checks, filtered, head_after, flushed, flush_in, page_checks, with_batch_page, with_batch}
use Rattle.model.specs.Put.{due, no_position, appends, put_leaving, room_checks, put_checks, unlisted, buffered, put_in}
use Rattle.model.specs.Get.{get_checks, reads_for, read_through, sought}
use Rattle.model.specs.Del.{removes, del_checks, unbuffered, deleted}
use Rattle.model.specs.View.{view_checks, viewed}
use Rattle.model.specs.Count.{count_checks}
use Rattle.model.specs.Text.{figures}
use Rattle.model.specs.PartitionText.{put_text, joined, source, answers_in, answers_with, entry_text, page_text, source_text, partition_text, some_batch_fails, text_checks}
use Rattle.model.specs.Drop.{drop_checks, head_dropped, dropped, drop_in}
use Rattle.model.specs.Calls.{checks, result, reply, effect, after, text_left, run, replies}

unfoldable pub computing : Type 0
unfolding word bytes_of write within first_from is_power allowed most_entries filter_at buffer_at stride partition_at memory_need slot_page_at flash_need geometry_of with_opening partition_of page_of mixed bit_of staying staying_bytes closed_up compared appended replaced removed stored added without taken emptied numbered expected enlisted struck expired unexpired with_bit passes with_bits with_entries with_pages filter_for with_head totalled is_live slot_bits batch_passes passing_from passing sum pushes_out failed_head leaving unopened head_overfull page_overfull key_overfull some_page_overfull total_out format_checks emptied_pages emptied_partitions formatted due_checks flush_checks filtered delisted head_after flushed flush_in page_checks with_batch_page with_batch due no_position appends put_leaving room_checks put_checks unlisted buffered put_in get_checks reads_for read_through sought removes del_checks unbuffered deleted view_checks viewed count_checks figures put_text joined source answers_in answers_with entry_text page_text source_text partition_text some_batch_fails text_checks drop_checks head_dropped dropped drop_in checks result reply effect after text_left run replies
computing = Unit {0}
