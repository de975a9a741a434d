-- "Geometry": which numbers are allowed, what they need, and where everything begins.
-- The paper's s, P, Q, K, M, h, D are the fields parts, page, pages, kept, bits, hashes, list. Its partition is BufferHash's super table, its batch an incarnation.
use Rattle.std.specs.Prelude.{ℕ, suc, ◌+◌, ◌-◌, ◌*◌, ◌/◌, ◌^◌, Bool, ◌&&◌, eqb, leb}
use Rattle.model.specs.Search.{any_from}
use Rattle.model.specs.declared.Geometry.{Geometry}

-- the numbers of a table, in the paper's order
abbrev pub geometry : ℕ → ℕ → ℕ → ℕ → ℕ → ℕ → ℕ → Geometry
geometry s P Q K M h D = record { parts = s; page = P; pages = Q; kept = K; bits = M; hashes = h; list = D }

-- "the session's geometry, call it G"
abbrev pub G : Geometry
G = geometry 0 64 1 2 64 3 1

abbrev pub between : ℕ → ℕ → ℕ → Bool
between low high n = leb low n && leb n high

-- a power of two, from 2 ^ low to 2 ^ high
unfoldable pub is_power : ℕ → ℕ → ℕ → Bool
is_power low high n = any_from (suc high - low) low (λ i. eqb n (2 ^ i))

-- the table of allowed numbers
unfoldable pub allowed : Geometry → Bool
allowed g =
    leb g.parts 8
    && is_power 6 12 g.page
    && is_power 0 6 g.pages
    && between 1 32 g.kept
    && is_power 6 16 g.bits
    && between 1 8 g.hashes
    && between 1 1024 g.list

-- S = 2^s partitions
abbrev pub partitions : Geometry → ℕ
partitions g = 2 ^ g.parts

-- E = P / 16 − 1 entries fit a page
abbrev pub capacity : Geometry → ℕ
capacity g = g.page / 16 - 1

-- (K + 1) × Q × E: the entries that buffer and live batches have room for
unfoldable pub most_entries : Geometry → ℕ
most_entries g = (g.kept + 1) * g.pages * capacity g

-- a filter's bytes
abbrev pub filter_size : Geometry → ℕ
filter_size g = g.bits / 8

-- Within a partition: its head, the list, K filters by slot, Q buffer pages.
abbrev pub list_at : ℕ
list_at = 16

abbrev pub list_size : Geometry → ℕ
list_size g = 16 * g.list

unfoldable pub filter_at : Geometry → ℕ → ℕ
filter_at g j = list_at + list_size g + j * filter_size g

unfoldable pub buffer_at : Geometry → ℕ → ℕ
buffer_at g q = filter_at g g.kept + q * g.page

-- 16 + 16D + K × M / 8 + Q × P bytes for each partition
unfoldable pub stride : Geometry → ℕ
stride g = buffer_at g g.pages

-- The opening numbers take 32 bytes of memory.
unfoldable pub partition_at : Geometry → ℕ → ℕ
partition_at g t = 32 + t * stride g

unfoldable pub memory_need : Geometry → ℕ
memory_need g = partition_at g (partitions g)

-- Page q of slot j of partition t begins at flash byte ((t × K + j) × Q + q) × P.
unfoldable pub slot_page_at : Geometry → ℕ → ℕ → ℕ → ℕ
slot_page_at g t j q = ((t * g.kept + j) * g.pages + q) * g.page

unfoldable pub flash_need : Geometry → ℕ
flash_need g = partitions g * g.kept * g.pages * g.page
