-- the controls of the machines that commands are, and what each gives as it is made
pub mod Copy
pub mod Recv
pub mod Send
pub mod Get
pub mod Change
pub mod Put
