-- Names as keys of an ordered map.
use Rattle.std.specs.Prelude.{ℕ, ◌+◌, ◌*◌, List, [], ◌∷◌, take, drop}
use Rattle.std.specs.Ordering.{nat_cmp, ordering_then}
use Rattle.std.specs.declared.cmp.Ordering.{Ordering}
use Rattle.gfx_script.specs.declared.key.Key.{Key}

-- the number whose lowest digits to the base 256 are these letters, behind those of n
abbrev pub packed : ℕ → List ℕ → ℕ
packed n [] = n
packed n (c ∷ cs) = packed (256 * n + c) cs

-- the key of a name
unfoldable pub key_of : List ℕ → Key
key_of text = record {
  first = packed 0 (take 8 text);
  second = packed 0 (take 8 (drop 8 text));
  third = packed 0 (take 8 (drop 8 (drop 8 text)));
  fourth = packed 0 (take 8 (drop 8 (drop 8 (drop 8 text))));
}

-- keys in order
abbrev pub key_cmp : Key → Key → Ordering
key_cmp x y =
    ordering_then (nat_cmp x.first y.first) (ordering_then (nat_cmp x.second y.second) (ordering_then (nat_cmp x.third y.third) (nat_cmp x.fourth y.fourth)))
