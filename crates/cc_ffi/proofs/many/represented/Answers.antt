use Rattle.std.proofs.Common.{◌≡◌, true, false, refl, inl, inr}
use Rattle.cc_ffi.proofs.many.represented.Goals as goal

pub returns-then-cheri_cap_represents : goal.returns-then-cheri_cap_represents
returns-then-cheri_cap_represents c =
    let told = c.if-cheri_cap_represents.ensures in
    record {
      stored = λ fields has span stores. inl ((told.stored fields has span stores).0 refl, refl);
      none = λ fields has none. let no : true ≡ false = told.none fields has none in cc no;
    }

pub returns-else-cheri_cap_represents : goal.returns-else-cheri_cap_represents
returns-else-cheri_cap_represents c =
    let told = c.if-cheri_cap_represents.ensures in
    record {
      stored = λ fields has span stores. inr (λ yes. let no : false ≡ true = (told.stored fields has span stores).1 yes in cc no, refl);
      none = λ fields has none. refl;
    }
