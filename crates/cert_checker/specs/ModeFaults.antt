-- To believe, for the command.
-- Why the modes of a certificate fail, as a reason and as a fault of the certificate.
--
-- To believe: all of this file.
use Rattle.cert_modes.specs.declared.fault.ModeFault.{ModeFault}
use Rattle.cert_modes.specs.declared.fault.ModeReason.{ModeReason}
use Rattle.cert_modes.specs.declared.fault.ModeReason.TheVariants as mode
use Rattle.cert_checker.specs.declared.fault.Fault.{Fault}
use Rattle.cert_checker.specs.declared.reason.Reason.{Reason}
use Rattle.cert_checker.specs.declared.reason.Reason.TheVariants as reason

-- the reason why modes fail, as one of a certificate
abbrev pub mode_reason : ModeReason → Reason
mode_reason mode.Ground = reason.Ground
mode_reason mode.Precondition = reason.Precondition
mode_reason mode.Mode = reason.Mode

abbrev pub fault_of : ModeFault → Fault
fault_of f = record { line = f.line; reason = mode_reason f.reason }
