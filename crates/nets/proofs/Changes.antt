-- What a table of changes makes of a net: its lines, and its edits. Assumes nothing.
use Rattle.std.proofs.Common.{◌≡◌, ℕ, zero, suc, ◌<◌, true, leb, List, [], ◌∷◌, length, get_or, set, replicate, Some, None, sym, refl, ap, ◌∙◌, ap₂, arith}
use Rattle.std.specs.List.{slice_get}
use Rattle.std.proofs.lemmas.List.{set-get_or}
use Rattle.std.proofs.lemmas.Option.{slice_get-get_or}
use Rattle.std.proofs.lemmas.Bool.{cond-true, and_parts}
use Rattle.nets.specs.declared.line.Line.{Line}
use Rattle.nets.specs.declared.patched.Change.{Change}
use Rattle.nets.specs.declared.patched.PatchedNet.{PatchedNet}
use Rattle.nets.specs.Model.{Model, Sound, max_lines, max_fee, max_loss, price_fits}
use Rattle.nets.specs.Edits.{with_price, changed}
use Rattle.nets.specs.Only.{OnlyChange}
use Rattle.nets.specs.Listed.{blank_line}
use Rattle.nets.specs.Patches.{patch_line, ChangesNothing, change_price, patch_lines, patched}
use Rattle.nets.specs.PatchesSound.{length-patched}
use Rattle.nets.proofs.Edits.{changed_some}

patch_none : (c : Change) → ChangesNothing c → (n : ℕ) (ls : List Line) → patch_lines (replicate n c) ls ≡ ls
patch_none c h zero [] = refl
patch_none c h zero (l ∷ ls) = refl
patch_none c h (suc n) [] = refl
patch_none c h (suc n) (l ∷ ls) = ap₂ (λ x xs. x ∷ xs) (h l) (patch_none c h n ls)

pub patched_none : (c : Change) → ChangesNothing c → (n : ℕ) (m : Model) → patched (replicate n c) m ≡ m
patched_none c h n m = ap (λ ls. record { stations = m.stations; lines = ls }) (patch_none c h n m.lines)

-- line k

pub slice_get-patched_none : (cs : List Change) (ls : List Line) (k : ℕ) → slice_get ls k ≡ None → slice_get (patch_lines cs ls) k ≡ None
slice_get-patched_none cs [] k e = refl
slice_get-patched_none [] (l ∷ ls) k e = e
slice_get-patched_none (c ∷ cs) (l ∷ ls) zero e = cc
slice_get-patched_none (c ∷ cs) (l ∷ ls) (suc k) e = slice_get-patched_none cs ls k e

-- what a table is read as past its end
abbrev pub blank_change : Change
blank_change = record { fee = 0; loss = 0; «open» = None }

pub slice_get-patched : (cs : List Change) (ls : List Line) (k : ℕ) (l : Line) → k < length cs → slice_get ls k ≡ Some l → slice_get (patch_lines cs ls) k ≡ Some (patch_line (get_or cs k blank_change) l)
slice_get-patched cs [] k l h e = cc
slice_get-patched [] (y ∷ ls) k l h e = absurd (omega arith)
slice_get-patched (x ∷ cs) (y ∷ ls) zero l h e = let r : y ≡ l = cc in cc
slice_get-patched (x ∷ cs) (y ∷ ls) (suc k) l h e = slice_get-patched cs ls k l (omega arith) e

-- an edit

set-patched : (cs : List Change) (ls : List Line) (k : ℕ) (l : Line) (c : Change) → k < length cs → slice_get ls k ≡ Some l → patch_lines (set cs k c) ls ≡ set (patch_lines cs ls) k (patch_line c l)
set-patched cs [] k l c h e = refl
set-patched [] (y ∷ ls) k l c h e = absurd (omega arith)
set-patched (x ∷ cs) (y ∷ ls) zero l c h e = let q : y ≡ l = cc in ap (λ t. patch_line c t ∷ patch_lines cs ls) q
set-patched (x ∷ cs) (y ∷ ls) (suc k) l c h e = ap (λ t. patch_line x y ∷ t) (set-patched cs ls k l c (omega arith) e)

-- the change of line k written anew as d, which makes of a line what f makes of it as it was: the net is changed by f at line k
pub patched_rewritten : (cs : List Change) (m : Model) (k : ℕ) (d : Change) (f : Line → Line) → k < length cs → k < length m.lines → ((l : Line) → patch_line d l ≡ f (patch_line (get_or cs k blank_change) l)) → patched (set cs k d) m ≡ changed (patched cs m) k f
patched_rewritten cs m k d f h i q =
    let l = get_or m.lines k blank_line in
    let e = slice_get-get_or m.lines k blank_line i in
    ap (λ ls. record { stations = m.stations; lines = ls }) (set-patched cs m.lines k l d h e ∙ ap (set (patch_lines cs m.lines) k) (q l))
    ∙ changed_some (patched cs m) k f (patch_line (get_or cs k blank_change) l) (slice_get-patched cs m.lines k l h e)

pub patch_price : (c : Change) (fee loss : ℕ) → price_fits fee loss ≡ true → (l : Line) → patch_line (change_price fee loss c) l ≡ with_price fee loss (patch_line c l)
patch_price c fee loss b l =
    let p = and_parts _ _ b in
    ap₂ (λ x y. record { from = l.from; to = l.to; fee = x; loss = y; «open» = (patch_line c l).«open» }) (cond-true (leb fee max_fee) fee l.fee p.0) (cond-true (leb loss max_loss) loss l.loss p.1)

-- a line's number is one of the table's
pub in_table : (cs : List Change) (m : Model) (k : ℕ) → Sound m → k < length (patched cs m).lines → (k < max_lines) × (k < length m.lines)
in_table cs m k s h = let n = length-patched cs m.lines in (omega (arith, s.short), omega arith)

-- no edit at all
pub only_none : {N : Type 0} (k : ℕ) (net : PatchedNet N) → OnlyChange k net net
only_none k net =
    let changes = net.table.changes in
    record { net = refl; value = get_or changes k blank_change; changes = sym (set-get_or changes k blank_change) }

-- how many lines a patched net has, for proofs that name it in the code
pub ruleset patched_lengths = (length-patched)
