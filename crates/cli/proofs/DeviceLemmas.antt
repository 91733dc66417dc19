-- The result of a command, from that of its devices.
use Rattle.std.proofs.Common.{◌≡◌, ◌∙◌, ℕ, List, Option, Some, None, Result, Ok, Err, subst, sym}
use Rattle.std.specs.Prelude.{IfSome}
use Rattle.cc_io.specs.Devices.{InputState}
use Rattle.cc_io.specs.declared.summary.IoError.{IoError}
use Rattle.cc_io.specs.declared.summary.IoError.TheVariants.{Read, Write}
use Rattle.cc_io.specs.declared.summary.Summary.{Summary}
use Rattle.cli.specs.Devices.{Console, FromInput, OnDevices, Traffic, fault_of, traffic_of}
use Rattle.cli.specs.declared.fault.Fault.{Fault}
use Rattle.cli.specs.declared.fault.Fault.TheVariants as fault
use Rattle.cli.specs.declared.input.InputName.{InputName}

-- ---- results

-- The result of devices, as one of the program.
abbrev pub with_fault : Result Summary IoError → Result Summary Fault
with_fault (Ok summary) = Ok summary
with_fault (Err error) = Err (fault_of error)

-- A claim on the result of devices holds of the program's.
pub on_devices : (Holds : Result Summary IoError → Type 0) (result : Result Summary Fault) (io : Result Summary IoError)
    → result ≡ with_fault io → Holds io → OnDevices Holds result
on_devices Holds result io is holds = subst (OnDevices Holds) (sym is) (of_io io holds)
  where
    of_io : (io : Result Summary IoError) → Holds io → OnDevices Holds (with_fault io)
    of_io (Ok summary) holds = holds
    of_io (Err Read) holds = holds
    of_io (Err Write) holds = holds

-- A claim that another one implies.
pub on_devices-map : (Holds Also : Result Summary IoError → Type 0) → ((io : Result Summary IoError) → Holds io → Also io)
    → (result : Result Summary Fault) → OnDevices Holds result → OnDevices Also result
on_devices-map Holds Also so (Ok summary) holds = so (Ok summary) holds
on_devices-map Holds Also so (Err fault.Read) holds = so (Err Read) holds
on_devices-map Holds Also so (Err fault.Write) holds = so (Err Write) holds
on_devices-map Holds Also so (Err fault.Memory) holds = tt
on_devices-map Holds Also so (Err fault.Open) holds = tt

-- ---- inputs

-- Sources with the same bytes have the same known bytes.
known_too : (known one other : Option (List ℕ)) → one ≡ other → IfSome known (λ bytes. other ≡ Some bytes) → IfSome known (λ bytes. one ≡ Some bytes)
known_too None one other same told = tt
known_too (Some bytes) one other same told = same ∙ told

-- A run whose source has the bytes of a reader of this input, which `bytes_of` knows or not.
pub from_input : (input : InputName) (console : Console) (Does : Traffic → Result Summary IoError → Type 0) (bytes_of : InputName → Option (List ℕ))
    (source : InputState) (remaining : Option (List ℕ)) (io : Result Summary IoError)
    → console.input ≡ bytes_of → source.unread ≡ remaining → IfSome (bytes_of input) (λ bytes. remaining ≡ Some bytes)
    → Does (traffic_of console source) io → FromInput input console Does io
from_input input console Does bytes_of source remaining io same is told does = record {
  source = source;
  known = subst (λ (bytes : InputName → Option (List ℕ)). IfSome (bytes input) (λ b. source.unread ≡ Some b)) (sym same) (known_too (bytes_of input) source.unread remaining is told);
  does = does;
}
