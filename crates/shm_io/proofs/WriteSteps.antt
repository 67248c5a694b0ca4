-- Writes one after another.
use Rattle.std.proofs.Common.{◌≡◌, ℕ, ◌+◌, List, ◌++◌, take, drop, Option, Some, None, sym, ap, ◌∙◌}
use Rattle.std.proofs.{Math.Seq.take-add, lemmas.List.append_assoc}
use Rattle.shm_io.specs.Writing.{Appends}

-- a front of the text, and then a front of its rest
pub Appends-front : (a b c : Option (List ℕ)) (text rest : List ℕ) (k n : ℕ) → Appends a b (take k text) → Appends b c (take n rest) → rest ≡ drop k text → Appends a c (take (k + n) text)
Appends-front None b c text rest k n first next is = rw first at next
Appends-front (Some held) b c text rest k n first next is =
    let p : take k text ++ take n rest ≡ take (k + n) text = ap (λ r. take k text ++ take n r) is ∙ sym (take-add k n text) in
    let more : c ≡ Some ((held ++ take k text) ++ take n rest) = rw first at next in
    more ∙ ap Some (append_assoc held (take k text) (take n rest) ∙ ap (λ q. held ++ q) p)
