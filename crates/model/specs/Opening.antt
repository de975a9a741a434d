-- "Memory opens with eight 4-byte numbers: s, P, Q, K, M, h, D, 0."
use Rattle.std.specs.Prelude.{ℕ, List}
use Rattle.model.specs.Bytes.{word, write}
use Rattle.model.specs.Geometry.{geometry}
use Rattle.model.specs.declared.Geometry.{Geometry}

abbrev pub opening_size : ℕ
opening_size = 32

unfoldable pub geometry_of : List ℕ → Geometry
geometry_of m = geometry (word 4 m 0) (word 4 m 4) (word 4 m 8) (word 4 m 12) (word 4 m 16) (word 4 m 20) (word 4 m 24)

abbrev pub eighth : List ℕ → ℕ
eighth m = word 4 m 28

unfoldable pub with_opening : Geometry → List ℕ → List ℕ
with_opening g m =
    write 4 0 28
    (write 4 g.list 24
    (write 4 g.hashes 20
    (write 4 g.bits 16
    (write 4 g.kept 12
    (write 4 g.pages 8
    (write 4 g.page 4
    (write 4 g.parts 0 m)))))))
