-- What a table of records means: its lines, its edits, and its judging. Assumes nothing.
use Rattle.std.proofs.Common.{◌≡◌, ℕ, zero, suc, ◌<◌, ◌≤◌, min, Bool, true, List, [], ◌∷◌, map, length, get_or, take, set, Some, None, Decides, sym, refl, ap, ◌∙◌, arith, length-take}
use Rattle.std.proofs.lemmas.List.{length-map}
use Rattle.std.specs.List.{AllByRecursion, slice_get}
use Rattle.std.proofs.lemmas.List.{map-set, get_or-map, get_or-take, set-get_or, take_all}
use Rattle.std.proofs.lemmas.Option.{slice_get-get_or, slice_get_past}
use Rattle.std.proofs.lemmas.Bool.{cond-true, and_from, and_parts, le-leb, leb-true}
use Rattle.std.proofs.ByRecursion.{Decides-by_and}
use Rattle.nets.specs.declared.line.Line.{Line}
use Rattle.nets.specs.declared.list.ListNet.{ListNet}
use Rattle.nets.specs.Model.{LineLimits, Sound, max_lines, price_fits, line_fits}
use Rattle.nets.specs.LimitTests.{price_from_fits, limits_from_fits, fits_from_limits}
use Rattle.nets.specs.Edits.{with_price, with_open, changed}
use Rattle.nets.specs.Only.{OnlyRecord}
use Rattle.nets.specs.Listed.{stations_of, blank_line, seen, listed, as_given, all_fit, net_fits}
use Rattle.nets.specs.ListedSound.{length-listed, sound_listed}
use Rattle.nets.proofs.Edits.{changed_some}
use Rattle.nets.proofs.SliceGet.{All-slice_get}

-- line k

pub slice_get-listed : (n : ℕ) (records : List Line) (k : ℕ) (d : Line) → k < min (length records) max_lines → slice_get (listed n records).lines k ≡ Some (seen (stations_of n) (get_or records k d))
slice_get-listed n records k d h =
    let f : Line → Line = seen (stations_of n) in
    let inside : k < length (take max_lines records) = simp length-take (omega arith) in
    let mapped : k < length (map f (take max_lines records)) = simp (length-map, length-take) (omega arith) in
    slice_get-get_or (map f (take max_lines records)) k d mapped
    ∙ ap Some (get_or-map f (take max_lines records) k d d inside ∙ ap f (get_or-take max_lines records k d (omega arith)))

pub slice_get-listed_past : (n : ℕ) (records : List Line) (k : ℕ) → min (length records) max_lines ≤ k → slice_get (listed n records).lines k ≡ None
slice_get-listed_past n records k h = slice_get_past _ k (rw (length-listed n records) h)

line_limits : (n : ℕ) (records : List Line) (k : ℕ) (l : Line) → slice_get (listed n records).lines k ≡ Some l → LineLimits (stations_of n) l
line_limits n records k l e = All-slice_get (LineLimits (stations_of n)) (listed n records).lines k l (sound_listed n records).each e

-- an edit

seen_within : (n : ℕ) (l : Line) → LineLimits n l → seen n l ≡ l
seen_within n l h = cond-true (line_fits n l) l blank_line (fits_from_limits n l h)

take-set : (m : ℕ) (records : List Line) (k : ℕ) (x : Line) → take m (set records k x) ≡ set (take m records) k x
take-set zero records k x = refl
take-set (suc m) [] k x = refl
take-set (suc m) (l ∷ ls) zero x = refl
take-set (suc m) (l ∷ ls) (suc k) x = ap (λ t. l ∷ t) (take-set m ls k x)

set-listed : (n : ℕ) (records : List Line) (k : ℕ) (x : Line) → seen (stations_of n) x ≡ x → (listed n (set records k x)).lines ≡ set (listed n records).lines k x
set-listed n records k x e =
    ap (map (seen (stations_of n))) (take-set max_lines records k x) ∙ map-set (seen (stations_of n)) (take max_lines records) k x ∙ ap (set (listed n records).lines k) e

-- record k written as line k changed by f, within the limits: the net is changed by f at line k
pub listed_rewritten : (n : ℕ) (records : List Line) (k : ℕ) (l x : Line) (f : Line → Line) → slice_get (listed n records).lines k ≡ Some l → x ≡ f l → LineLimits (stations_of n) (f l) → listed n (set records k x) ≡ changed (listed n records) k f
listed_rewritten n records k l x f e q h =
    ap (λ y. listed n (set records k y)) q
    ∙ ap (as_given (stations_of n)) (set-listed n records k (f l) (seen_within (stations_of n) (f l) h))
    ∙ changed_some (listed n records) k f l e

-- the same of the record as it was read, where f keeps within the limits
pub record_rewritten : (n : ℕ) (records : List Line) (k : ℕ) (x : Line) (f : Line → Line) → k < length (listed n records).lines → x ≡ f (seen (stations_of n) (get_or records k blank_line)) → ((l : Line) → LineLimits (stations_of n) l → LineLimits (stations_of n) (f l)) → listed n (set records k x) ≡ changed (listed n records) k f
record_rewritten n records k x f i q keeps =
    let l = seen (stations_of n) (get_or records k blank_line) in
    let h = length-listed n records in
    let e = slice_get-listed n records k blank_line (omega arith) in
    listed_rewritten n records k l x f e q (keeps l (line_limits n records k l e))

-- a line's number is that of a record which is read
pub in_table : (n : ℕ) (records : List Line) (k : ℕ) → k < length (listed n records).lines → (k < length records) × (k < max_lines)
in_table n records k i = let h = length-listed n records in (omega arith, omega arith)

pub priced_limits : (n fee loss : ℕ) → price_fits fee loss ≡ true → (l : Line) → LineLimits n l → LineLimits n (with_price fee loss l)
priced_limits n fee loss b l h = let p = price_from_fits fee loss b in record { from = h.from; to = h.to; fee = p.0; loss = p.1 }

pub opened_limits : (n : ℕ) (b : Bool) (l : Line) → LineLimits n l → LineLimits n (with_open b l)
opened_limits n b l h = record { from = h.from; to = h.to; fee = h.fee; loss = h.loss }

-- no edit at all
pub only_none : (k : ℕ) (net : ListNet) → OnlyRecord k net net
only_none k net =
    let records = net.records.now in
    record { count = refl; lender = refl; value = get_or records k blank_line; records = sym (set-get_or records k blank_line) }

-- the judging

decides_line : (n : ℕ) (l : Line) → Decides (line_fits n l) (LineLimits n l)
decides_line n l = (limits_from_fits n l, fits_from_limits n l)

decides_all : (n : ℕ) (records : List Line) → Decides (all_fit n records) (AllByRecursion (LineLimits n) records)
decides_all n records = Decides-by_and (line_fits n) (LineLimits n) (all_fit n) (decides_line n) refl (λ _ _. refl) records

pub sound_from_fits : (n : ℕ) (records : List Line) → net_fits n records ≡ true → Sound (as_given n records)
sound_from_fits n records e =
    let a = and_parts _ _ e in let b = and_parts _ _ a.1 in let d = and_parts _ _ b.1 in
    record { some = leb-true _ _ a.0; few = leb-true _ _ b.0; short = leb-true _ _ d.0; each = (decides_all n records).0 d.1 }

pub fits_from_sound : (n : ℕ) (records : List Line) → Sound (as_given n records) → net_fits n records ≡ true
fits_from_sound n records s =
    and_from _ _ (le-leb _ _ s.some) (and_from _ _ (le-leb _ _ s.few) (and_from _ _ (le-leb _ _ s.short) ((decides_all n records).1 s.each)))

map-seen : (n : ℕ) (records : List Line) → AllByRecursion (LineLimits n) records → map (seen n) records ≡ records
map-seen n [] h = refl
map-seen n (l ∷ ls) h = rw (seen_within n l h.0, map-seen n ls h.1)

pub listed_sound : (n : ℕ) (records : List Line) → Sound (as_given n records) → listed n records ≡ as_given n records
listed_sound n records s =
    let same : stations_of n ≡ n = omega (arith, s.some, s.few) in
    ap (λ i. record { stations = i; lines = map (seen i) (take max_lines records) }) same
    ∙ ap (as_given n) (ap (map (seen n)) (take_all max_lines records s.short) ∙ map-seen n records s.each)
