-- What of a partition is younger than a batch, asked for a key that is not listed.
use Rattle.std.specs.Prelude.{ℕ, Bool, true, false, List}
use Rattle.model.specs.declared.Geometry.{Geometry}
use Rattle.model.specs.Keys.{page_of}
use Rattle.model.specs.Page.{searched, compared}
use Rattle.model.specs.Partition.{flushes_of, buffer_of, passing_from}
use Rattle.model.specs.Answers.{tally, Answer, buffer, done, found, absent, shown, refused}
use Rattle.model.specs.Get.{hit_in, read_through}

-- from the youngest `count` batches whose filter passes, behind the buffer page
abbrev pub read_among : Geometry → ℕ → ℕ → List ℕ → List ℕ → Answer
read_among g count k p f = read_through g k f (passing_from g k p count (flushes_of p)) (tally 0 (compared k (buffer_of g p (page_of g k))))

-- from the buffer page, then from these
abbrev pub sought_among : Geometry → ℕ → ℕ → List ℕ → List ℕ → Answer
sought_among g count k p f =
    let page : List ℕ = buffer_of g p (page_of g k) in
    hit_in page (tally 0 (compared k page)) buffer (searched k page) (read_among g count k p f)

-- they do not answer
abbrev pub is_absent : Answer → Bool
is_absent (absent c) = true
is_absent (found v c place) = false
is_absent (done n) = false
is_absent (shown s) = false
is_absent (refused n r) = false
