-- That changes leave a net within the limits. Assumes nothing.
use Rattle.std.specs.Prelude.{◌≡◌, ℕ, suc, ◌≤◌, List, [], ◌∷◌, length, nat_le, refl}
use Rattle.std.proofs.Common.{ap}
use Rattle.std.specs.List.{AllByRecursion}
use Rattle.std.proofs.lemmas.Bool.{cond_both, leb-true}
use Rattle.nets.specs.declared.line.Line.{Line}
use Rattle.nets.specs.declared.patched.Change.{Change}
use Rattle.nets.specs.Model.{Model, LineLimits, Sound, max_fee, max_loss}
use Rattle.nets.specs.Patches.{patch_line, patch_lines, patched}

pub length-patched : (cs : List Change) (ls : List Line) → length (patch_lines cs ls) ≡ length ls
length-patched cs [] = refl
length-patched [] (l ∷ ls) = refl
length-patched (c ∷ cs) (l ∷ ls) = ap suc (length-patched cs ls)

patch_limits : (n : ℕ) (c : Change) (l : Line) → LineLimits n l → LineLimits n (patch_line c l)
patch_limits n c l h = record {
  from = h.from;
  to = h.to;
  fee = cond_both (nat_le c.fee max_fee) c.fee l.fee (λ x. x ≤ max_fee) (leb-true _ _) (λ _. h.fee);
  loss = cond_both (nat_le c.loss max_loss) c.loss l.loss (λ x. x ≤ max_loss) (leb-true _ _) (λ _. h.loss);
}

all_patched : (n : ℕ) (cs : List Change) (ls : List Line) → AllByRecursion (LineLimits n) ls → AllByRecursion (LineLimits n) (patch_lines cs ls)
all_patched n cs [] h = tt
all_patched n [] (l ∷ ls) h = h
all_patched n (c ∷ cs) (l ∷ ls) h = (patch_limits n c l h.0, all_patched n cs ls h.1)

pub sound_patched : (cs : List Change) (m : Model) → Sound m → Sound (patched cs m)
sound_patched cs m s = record {
  some = s.some;
  few = s.few;
  short = rw (length-patched cs m.lines) s.short;
  each = all_patched m.stations cs m.lines s.each;
}
