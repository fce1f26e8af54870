-- `read` meets its contract: the fields of each word, one after the other.
use Rattle.console.proofs.Filling.{of_word, whole, next}
use Rattle.console.proofs.command.read.Goals as goal

pub returns-in_ok-up_to-in-New : goal.returns-in_ok-up_to-in-New
returns-in_ok-up_to-in-New c = of_word c.in-New.is (next c.in_ok-u32-in-New.ensures (next c.in_ok-up_to-in-New.ensures (whole _)))

pub returns-in_ok-u32-in-Link-3 : goal.returns-in_ok-u32-in-Link-3
returns-in_ok-u32-in-Link-3 c = of_word c.in-Link.is (next c.in_ok-u32-in-Link.ensures (next c.in_ok-u32-in-Link-2.ensures (next c.in_ok-u32-in-Link-3.ensures (whole _))))

pub returns-in_ok-address-in-Addr : goal.returns-in_ok-address-in-Addr
returns-in_ok-address-in-Addr c = of_word c.in-Addr.is (next c.in_ok-u32-in-Addr.ensures (next c.in_ok-address-in-Addr.ensures (whole _)))

pub returns-in_ok-text-in-Advertise-3 : goal.returns-in_ok-text-in-Advertise-3
returns-in_ok-text-in-Advertise-3 c = of_word c.in-Advertise.is (next c.in_ok-text-in-Advertise.ensures (next c.in_ok-text-in-Advertise-2.ensures (next c.in_ok-text-in-Advertise-3.ensures (whole _))))

pub returns-in_ok-rest-in-Data : goal.returns-in_ok-rest-in-Data
returns-in_ok-rest-in-Data c = of_word c.in-Data.is (next c.in_ok-up_to-in-Data.ensures (next c.in_ok-address-in-Data.ensures (next c.in_ok-u16-in-Data.ensures (next c.in_ok-address-in-Data-2.ensures (next c.in_ok-rest-in-Data.ensures (whole _))))))

pub returns-in_ok-up_to-in-Timeout : goal.returns-in_ok-up_to-in-Timeout
returns-in_ok-up_to-in-Timeout c = of_word c.in-Timeout.is (next c.in_ok-up_to-in-Timeout.ensures (whole _))

pub returns-in_ok-u32-in-Dellink-2 : goal.returns-in_ok-u32-in-Dellink-2
returns-in_ok-u32-in-Dellink-2 c = of_word c.in-Dellink.is (next c.in_ok-u32-in-Dellink.ensures (next c.in_ok-u32-in-Dellink-2.ensures (whole _)))

pub returns-in_ok-address-in-Deladdr : goal.returns-in_ok-address-in-Deladdr
returns-in_ok-address-in-Deladdr c = of_word c.in-Deladdr.is (next c.in_ok-u32-in-Deladdr.ensures (next c.in_ok-address-in-Deladdr.ensures (whole _)))

pub returns-in_ok-text-in-Subscribe : goal.returns-in_ok-text-in-Subscribe
returns-in_ok-text-in-Subscribe c = of_word c.in-Subscribe.is (next c.in_ok-text-in-Subscribe.ensures (whole _))

pub returns-in_ok-text-in-Deadvertise : goal.returns-in_ok-text-in-Deadvertise
returns-in_ok-text-in-Deadvertise c = of_word c.in-Deadvertise.is (next c.in_ok-text-in-Deadvertise.ensures (whole _))

pub returns-in-Refresh : goal.returns-in-Refresh
returns-in-Refresh c = of_word c.in-Refresh.is (whole _)

pub returns-in_ok-up_to-in-Reset : goal.returns-in_ok-up_to-in-Reset
returns-in_ok-up_to-in-Reset c = of_word c.in-Reset.is (next c.in_ok-up_to-in-Reset.ensures (whole _))

pub returns-in_ok-up_to-in-Outbox : goal.returns-in_ok-up_to-in-Outbox
returns-in_ok-up_to-in-Outbox c = of_word c.in-Outbox.is (next c.in_ok-up_to-in-Outbox.ensures (whole _))

pub returns-in_ok-hex-in-Hexdata : goal.returns-in_ok-hex-in-Hexdata
returns-in_ok-hex-in-Hexdata c = of_word c.in-Hexdata.is (next c.in_ok-up_to-in-Hexdata.ensures (next c.in_ok-address-in-Hexdata.ensures (next c.in_ok-u16-in-Hexdata.ensures (next c.in_ok-address-in-Hexdata-2.ensures (next c.in_ok-hex-in-Hexdata.ensures (whole _))))))

pub returns-in_ok-hex-in-Hexaddr : goal.returns-in_ok-hex-in-Hexaddr
returns-in_ok-hex-in-Hexaddr c = of_word c.in-Hexaddr.is (next c.in_ok-u32-in-Hexaddr.ensures (next c.in_ok-hex-in-Hexaddr.ensures (whole _)))

pub returns-in_ok-hex-in-Hexdeladdr : goal.returns-in_ok-hex-in-Hexdeladdr
returns-in_ok-hex-in-Hexdeladdr c = of_word c.in-Hexdeladdr.is (next c.in_ok-u32-in-Hexdeladdr.ensures (next c.in_ok-hex-in-Hexdeladdr.ensures (whole _)))
